-- An image and its 2,048 bytes say the same, and where in the bytes each word of it stands.
-- By `WordLaws` bytes are as good as words; of the 256 words the first four are named, the next 200 are slots two by two, and the rest are zero.
use Prim.Native.Nat.{ℕ, zero, suc, ◌+◌, ◌-◌, ◌*◌, ◌^◌, ◌≤◌, ◌<◌}
use mathlib.Core.Path.{◌≡◌, refl, ap, ap₂, sym, ◌∙◌, fun_ext}
use mathlib.Core.Bool.{true, cond, and-eq-true_iff}
use mathlib.Core.List.{List, [], ◌∷◌, ◌++◌}
use native.Mathlib.Omega.{arith}
use native.Mathlib.Nat.{mul-suc}
use native.Mathlib.Numerals.{add-two}
use lib.ListN.{length, get_or, take, drop, replicate, length-drop}
use lib.Seq.{get_or-drop}
use lib.Dec.{eqb, eqb-suc-zero, eqb-zero-suc, eqb-suc-suc}
use borrow.Author.Tests.{eqb-true}
use Rattle.rules.specs.Bits.{AreBytes, AreWords, bytes_of, words_of, bytes_of_all}
use Rattle.rules.specs.Image.{Slot, Image, none, slot_words, words_in, from_words, encode, decode, Sound}
use Rattle.rules.specs.Buffer.{stored, with_victims}
use Rattle.rules.specs.Refusals.{all_zero}
use Rattle.rules.specs.Calls.{with_flags, with_cr3}
use Rattle.rules.proofs.WordLaws.{all_length, all_are, words_all, all_words, words_are, words_length, all_append, all_take, all_drop, zero_tail}

-- ---- the bytes as a whole
pub encode_length : (s : Image) → length (encode s) ≡ 2048
unfolding encode
encode_length s = all_length (words_in s)

pub encode_bytes : (s : Image) → AreBytes (encode s)
unfolding encode
encode_bytes s = all_are (words_in s)

pub encode_tail : (s : Image) → all_zero (drop 204 (words_of 256 (encode s))) ≡ true
unfolding encode
encode_tail s = zero_tail 256 204 (encode s) (encode_length s) (omega arith) ∙ ap all_zero (sym (all_drop 204 (words_in s)))

-- ---- zeros
pub zeros_at : (n i : ℕ) → ◌≡◌ {A = ℕ} (get_or (replicate n 0) i 0) 0
zeros_at zero i = refl
zeros_at (suc n) zero = refl
zeros_at (suc n) (suc i) = zeros_at n i

pub zeros : (xs : List ℕ) → all_zero xs ≡ true → xs ≡ replicate (length xs) 0
zeros [] h = refl
zeros (x ∷ xs) h =
    let b : (eqb x 0 ≡ true) × (all_zero xs ≡ true) = (and-eq-true_iff (eqb x 0) (all_zero xs)).0 h in
    ap₂ (λ (y : ℕ) (ys : List ℕ). y ∷ ys) (eqb-true x 0 b.0) (zeros xs b.1)

-- ---- slots are words two by two
abbrev slots_in : List ℕ → ℕ → Slot
slots_in xs i = record { tag = get_or xs (2 * i) 0; datum = get_or xs (suc (2 * i)) 0 }

slots_next : (x y : ℕ) (xs : List ℕ) (i : ℕ) → slots_in (x ∷ y ∷ xs) (suc i) ≡ slots_in xs i
slots_next x y xs i = rw (mul-suc 2 i, add-two)

slots_from : (ws : List ℕ) (i : ℕ) → (from_words ws).slots i ≡ slots_in (drop 4 ws) i
slots_from ws i =
    let e : 4 + suc (2 * i) ≡ 5 + 2 * i = omega arith in
    rw (get_or-drop 4 ws (2 * i), get_or-drop 4 ws (suc (2 * i)), e)

slots_words : (n : ℕ) (f : ℕ → Slot) (zs : List ℕ) → ((i : ℕ) → (f i).tag < 2 ^ 64) → ((i : ℕ) → (f i).datum < 2 ^ 64)
    → AreWords zs → AreWords (slot_words n f ++ zs)
slots_words zero f zs t d h i = h i
slots_words (suc n) f zs t d h zero = t 0
slots_words (suc n) f zs t d h (suc zero) = d 0
slots_words (suc n) f zs t d h (suc (suc i)) = slots_words n (λ j. f (suc j)) zs (λ j. t (suc j)) (λ j. d (suc j)) h i

slots_back : (n m : ℕ) (f : ℕ → Slot) → ((i : ℕ) → n ≤ i → f i ≡ none) → (i : ℕ) → slots_in (slot_words n f ++ replicate m 0) i ≡ f i
slots_back zero m f h i = rw (zeros_at m (2 * i), zeros_at m (suc (2 * i))) (sym (h i (omega arith)))
slots_back (suc n) m f h zero = refl
slots_back (suc n) m f h (suc i) = rw (mul-suc 2 i, add-two) (slots_back n m (λ j. f (suc j)) (λ j g. h (suc j) (omega arith)) i)

words_back : (n : ℕ) (xs : List ℕ) → 2 * n ≤ length xs → slot_words n (slots_in xs) ++ drop (2 * n) xs ≡ xs
words_back zero xs h = refl
words_back (suc n) [] h = absurd (omega arith)
words_back (suc n) (x ∷ []) h = absurd (omega arith)
words_back (suc n) (x ∷ y ∷ xs) h =
    rw (fun_ext (slots_next x y xs), mul-suc 2 n, add-two) (ap (λ (l : List ℕ). x ∷ y ∷ l) (words_back n xs (omega arith)))

-- ---- there and back
sound_words : (s : Image) → Sound s → AreWords (words_in s)
sound_words s q zero = q.width
sound_words s q (suc zero) = q.flags
sound_words s q (suc (suc zero)) = q.cr3
sound_words s q (suc (suc (suc zero))) = q.victims
sound_words s q (suc (suc (suc (suc i)))) =
    slots_words 100 s.slots (replicate 52 0) q.tags q.datums (λ j. rw (zeros_at 52 j) (omega arith)) i

pub decode_encode : (s : Image) → Sound s → decode (encode s) ≡ s
unfolding encode decode
decode_encode s q =
    ap from_words (words_all (words_in s) (sound_words s q))
    ∙ ap (λ (f : ℕ → Slot). record { width = s.width; flags = s.flags; cr3 = s.cr3; victims = s.victims; slots = f })
    (fun_ext (λ i. slots_from (words_in s) i ∙ slots_back 100 52 s.slots q.beyond i))

words_image : (ws : List ℕ) → length ws ≡ 256 → all_zero (drop 204 ws) ≡ true → words_in (from_words ws) ≡ ws
words_image [] e z = absurd (omega arith)
words_image (w ∷ []) e z = absurd (omega arith)
words_image (w ∷ f ∷ []) e z = absurd (omega arith)
words_image (w ∷ f ∷ r ∷ []) e z = absurd (omega arith)
words_image (w ∷ f ∷ r ∷ v ∷ xs) e z =
    let n : length xs - 200 ≡ 52 = omega arith in
    let tail : drop 200 xs ≡ replicate 52 0 = rw (length-drop 200 xs, n) at (zeros (drop 200 xs) z) in
    ap (λ (l : List ℕ). w ∷ f ∷ r ∷ v ∷ l)
    (ap₂ (λ (g : ℕ → Slot) (l : List ℕ). slot_words 100 g ++ l) (fun_ext (slots_from (w ∷ f ∷ r ∷ v ∷ xs))) (sym tail)
    ∙ words_back 100 xs (omega arith))

pub encode_decode : (b : List ℕ) → AreBytes b → length b ≡ 2048 → all_zero (drop 204 (words_of 256 b)) ≡ true → encode (decode b) ≡ b
unfolding encode decode
encode_decode b h e z = ap bytes_of_all (words_image (words_of 256 b) (words_length 256 b) z) ∙ all_words 256 b h e

words_sound : (ws : List ℕ) → AreWords ws → all_zero (drop 204 ws) ≡ true → Sound (from_words ws)
words_sound ws h z =
    record {
      width = h 0;
      flags = h 1;
      cr3 = h 2;
      victims = h 3;
      tags = λ i. h (4 + 2 * i);
      datums = λ i. h (5 + 2 * i);
      beyond = λ i g. rw (far (4 + 2 * i) (omega arith), far (5 + 2 * i) (omega arith));
    }
  where
    far : (j : ℕ) → 204 ≤ j → get_or ws j 0 ≡ 0
    far j g =
        let e : 204 + (j - 204) ≡ j = omega arith in
        rw (get_or-drop 204 ws (j - 204) 0, e) at (ap (λ (l : List ℕ). get_or l (j - 204) 0) (zeros (drop 204 ws) z))
        ∙ zeros_at (length (drop 204 ws)) (j - 204)

pub sound_decode : (b : List ℕ) → AreBytes b → all_zero (drop 204 (words_of 256 b)) ≡ true → Sound (decode b)
unfolding decode
sound_decode b h z = words_sound (words_of 256 b) (words_are 256 b h) z

-- ---- where words stand in the bytes
pub put_bytes : (m n : ℕ) (us ws : List ℕ)
    → bytes_of_all (take m ws ++ (us ++ drop n ws)) ≡ take (8 * m) (bytes_of_all ws) ++ (bytes_of_all us ++ drop (8 * n) (bytes_of_all ws))
put_bytes m n us ws = simp (all_append, all_take, all_drop)

pub flags_bytes : (v : ℕ) (s : Image) → encode (with_flags v s) ≡ take 8 (encode s) ++ (bytes_of 8 v ++ drop 16 (encode s))
unfolding encode
flags_bytes v s = put_bytes 1 2 (v ∷ []) (words_in s)

pub cr3_bytes : (v : ℕ) (s : Image) → encode (with_cr3 v s) ≡ take 16 (encode s) ++ (bytes_of 8 v ++ drop 24 (encode s))
unfolding encode
cr3_bytes v s = put_bytes 2 3 (v ∷ []) (words_in s)

pub victims_bytes : (v : ℕ) (s : Image) → encode (with_victims v s) ≡ take 24 (encode s) ++ (bytes_of 8 v ++ drop 32 (encode s))
unfolding encode
victims_bytes v s = put_bytes 3 4 (v ∷ []) (words_in s)

-- slot i of n, before other words
slot_put_lem : (n i : ℕ) (t : Slot) (f : ℕ → Slot) (zs : List ℕ) → i < n
    → slot_words n (λ j. cond (eqb j i) t (f j)) ++ zs
    ≡ take (2 * i) (slot_words n f ++ zs) ++ (t.tag ∷ t.datum ∷ drop (suc (suc (2 * i))) (slot_words n f ++ zs))
slot_put_lem zero i t f zs h = absurd (omega arith)
slot_put_lem (suc n) zero t f zs h = simp eqb-suc-zero
slot_put_lem (suc n) (suc i) t f zs h =
    rw (mul-suc 2 i, add-two)
    (simp (eqb-zero-suc, eqb-suc-suc) (ap (λ (l : List ℕ). (f 0).tag ∷ (f 0).datum ∷ l) (slot_put_lem n i t (λ j. f (suc j)) zs (omega arith))))

slot_at_lem : (n i : ℕ) (f : ℕ → Slot) (zs : List ℕ) → i < n → take 2 (drop (2 * i) (slot_words n f ++ zs)) ≡ (f i).tag ∷ (f i).datum ∷ []
slot_at_lem zero i f zs h = absurd (omega arith)
slot_at_lem (suc n) zero f zs h = refl
slot_at_lem (suc n) (suc i) f zs h = rw (mul-suc 2 i, add-two) (slot_at_lem n i (λ j. f (suc j)) zs (omega arith))

-- its first word's number
abbrev first : ℕ → ℕ
first i = suc (suc (suc (suc (2 * i))))

first_byte : (i : ℕ) → 8 * first i ≡ 32 + 16 * i
first_byte i = omega arith

pub store_bytes : (i : ℕ) (t : Slot) (s : Image) → i < 100
    → encode (stored i t s) ≡ take (32 + 16 * i) (encode s) ++ (bytes_of 8 t.tag ++ (bytes_of 8 t.datum ++ drop (48 + 16 * i) (encode s)))
unfolding encode
store_bytes i t s h =
    let next : 8 * suc (suc (first i)) ≡ 48 + 16 * i = omega arith in
    ap (λ (l : List ℕ). bytes_of_all (s.width ∷ s.flags ∷ s.cr3 ∷ s.victims ∷ l)) (slot_put_lem 100 i t s.slots (replicate 52 0) h)
    ∙ rw (first_byte i, next) at (put_bytes (first i) (suc (suc (first i))) (t.tag ∷ t.datum ∷ []) (words_in s))

pub slot_bytes : (i : ℕ) (s : Image) → i < 100
    → take 16 (drop (32 + 16 * i) (encode s)) ≡ bytes_of 8 (s.slots i).tag ++ bytes_of 8 (s.slots i).datum
unfolding encode
slot_bytes i s h =
    ap (take 16) (ap (λ (n : ℕ). drop n (encode s)) (sym (first_byte i)) ∙ sym (all_drop (first i) (words_in s)))
    ∙ sym (all_take 2 (drop (first i) (words_in s)))
    ∙ ap bytes_of_all (slot_at_lem 100 i s.slots (replicate 52 0) h)
