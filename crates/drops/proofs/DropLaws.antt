-- Drops of an image and of its bytes: which tests drop the same, one drop after another, and what slots that are emptied are in bytes.
-- A drop looks at each slot by itself, so two drops are the same if each slot is left the same.
use Prim.Native.Nat.{ℕ, zero, suc, ◌+◌, ◌*◌, ◌≤◌, ◌<◌}
use mathlib.Core.Path.{◌≡◌, refl, ap, sym, ◌∙◌, subst, fun_ext}
use mathlib.Core.Bool.{Bool, true, false, cond, ◌||◌}
use mathlib.Core.List.{List, ◌∷◌, ◌++◌}
use native.Mathlib.Omega.{arith}
use native.Mathlib.Decide.{dec_lt}
use native.Mathlib.Nat.{zero-add, mul-suc}
use native.Mathlib.Numerals.{add-two, add_eight}
use lib.ListN.{take, drop, replicate}
use lib.Seq.{drop-drop}
use lib.Dec.{leb-zero, leb-suc-zero, leb-suc-suc}
use borrow.Author.Tests.{lt-ltb}
use Rattle.rules.specs.Bits.{bytes_of, bytes_of_all}
use Rattle.rules.specs.Image.{Slot, Image, none, slot_words, words_in, encode, decode, IsImage}
use Rattle.rules.specs.Buffer.{dropped_if, dropped}
use Rattle.rules.proofs.WordLaws.{all_append, all_take, all_drop}
use Rattle.rules.proofs.ImageLaws.{decode_encode}
use Rattle.rules.proofs.PlaceLaws.{is_encoded, sound_dropped}
use Rattle.rules.proofs.SlotLaws.{none_anyway}
use Rattle.sets.specs.Ways.{tag_in}
use Rattle.drops.specs.Drops.{dropped_in, is_from, every_from}

-- ---- images
abbrev with_slots : Image → (ℕ → Slot) → Image
with_slots s f = record { width = s.width; flags = s.flags; cr3 = s.cr3; victims = s.victims; slots = f }

twice : (p q : ℕ → ℕ → Bool) (s : Image) → dropped q (dropped p s) ≡ dropped (λ i t. p i t || q i t) s
twice p q s = ap (with_slots s) (fun_ext (λ i. go i (p i (s.slots i).tag) (s.slots i)))
  where
    go : (i : ℕ) (b : Bool) (u : Slot) → dropped_if q i (cond b none u) ≡ cond (b || q i u.tag) none u
    go i true u = none_anyway (q i 0)
    go i false u = refl

-- ---- bytes
pub image_dropped : (p : ℕ → ℕ → Bool) (b b' : List ℕ) → IsImage b → b' ≡ dropped_in p b → IsImage b'
unfolding dropped_in
image_dropped p b b' h e = subst IsImage (sym e) (is_encoded (dropped p (decode b)) (sound_dropped p (decode b) h.sound))

pub image_twice : (p q : ℕ → ℕ → Bool) (b b₁ b₂ : List ℕ) → IsImage b → b₁ ≡ dropped_in p b → b₂ ≡ dropped_in q b₁ → IsImage b₂
image_twice p q b b₁ b₂ h e₁ e₂ = image_dropped q b₁ b₂ (image_dropped p b b₁ h e₁) e₂

module _ (p : ℕ → ℕ → Bool) (b : List ℕ) (h : IsImage b) where
  pub says_dropped : decode (dropped_in p b) ≡ dropped p (decode b)
  unfolding dropped_in
  says_dropped = decode_encode (dropped p (decode b)) (sound_dropped p (decode b) h.sound)

  -- two tests that say the same of each slot's own tag drop the same, and an image has no slots but the hundred
  pub dropped_as : (q : ℕ → ℕ → Bool) → ((i : ℕ) → i < 100 → p i (tag_in b i) ≡ q i (tag_in b i)) → dropped_in p b ≡ dropped_in q b
  unfolding dropped_in
  dropped_as q f = ap (λ (g : ℕ → Slot). encode (with_slots (decode b) g)) (fun_ext (λ i. go i (dec_lt i 100)))
    where
      go : (i : ℕ) → Dec (i < 100) → dropped_if p i ((decode b).slots i) ≡ dropped_if q i ((decode b).slots i)
      go i (yes g) = ap (λ (c : Bool). cond c none ((decode b).slots i)) (f i g)
      go i (no g) = rw (h.sound.beyond i (omega arith)) (none_anyway (p i 0) ∙ sym (none_anyway (q i 0)))

  -- a slot that is dropped is empty, and dropped again it stays so
  pub twice_dropped : (q : ℕ → ℕ → Bool) (b₁ b₂ : List ℕ) → b₁ ≡ dropped_in p b → b₂ ≡ dropped_in q b₁ → b₂ ≡ dropped_in (λ i t. p i t || q i t) b
  unfolding dropped_in
  twice_dropped q b₁ b₂ e₁ e₂ = e₂ ∙ ap (λ (s : Image). encode (dropped q s)) (ap decode e₁ ∙ says_dropped) ∙ ap encode (twice p q (decode b))

  pub none_dropped : ((i : ℕ) → i < 100 → p i (tag_in b i) ≡ false) → b ≡ dropped_in p b
  unfolding dropped_in
  none_dropped f = sym h.says ∙ sym (dropped_as (λ i t. false) f)

-- ---- slots that are emptied: k of them, from l on, are 2 k words of zero, and 16 k bytes
words_emptied : (n l k : ℕ) (f : ℕ → Slot) (zs : List ℕ) → l + k ≤ n
    → slot_words n (λ i. cond (is_from l (l + k) i) none (f i)) ++ zs
    ≡ take (2 * l) (slot_words n f ++ zs) ++ (replicate (2 * k) 0 ++ drop (2 * (l + k)) (slot_words n f ++ zs))
words_emptied n zero zero f zs h = ap (λ (g : ℕ → Slot). slot_words n g ++ zs) (fun_ext (λ i. rw (leb-zero i, leb-suc-zero i)))
words_emptied zero zero (suc k) f zs h = absurd (omega arith)
words_emptied (suc n) zero (suc k) f zs h =
    rw (zero-add (suc k), lt-ltb 0 (suc k) (omega arith))
    (simp (mul-suc, add-two, leb-zero, leb-suc-suc)
    (ap (λ (x : List ℕ). 0 ∷ 0 ∷ x) (simp (zero-add, leb-zero) at (words_emptied n zero k (λ j. f (suc j)) zs (omega arith)))))
words_emptied zero (suc l) k f zs h = absurd (omega arith)
words_emptied (suc n) (suc l) k f zs h =
    let e : suc l + k ≡ suc (l + k) = omega arith in
    rw e
    (simp (mul-suc, add-two, leb-suc-zero, leb-suc-suc)
    (ap (λ (x : List ℕ). (f 0).tag ∷ (f 0).datum ∷ x) (words_emptied n l k (λ j. f (suc j)) zs (omega arith))))

zero_bytes : (k : ℕ) → bytes_of_all (replicate k 0) ≡ replicate (8 * k) 0
zero_bytes zero = refl
zero_bytes (suc k) = rw (mul-suc 8 k, add_eight) (ap (λ (l : List ℕ). bytes_of 8 0 ++ l) (zero_bytes k))

put_zeros : (m k n : ℕ) (ws : List ℕ)
    → bytes_of_all (take m ws ++ (replicate k 0 ++ drop n ws)) ≡ take (8 * m) (bytes_of_all ws) ++ (replicate (8 * k) 0 ++ drop (8 * n) (bytes_of_all ws))
put_zeros m k n ws = simp (all_append, all_take, all_drop, zero_bytes)

-- the first of the words of slot i, after the four that are named
abbrev first : ℕ → ℕ
first i = suc (suc (suc (suc (2 * i))))

encode_emptied : (l k : ℕ) (s : Image) → l + k ≤ 100
    → encode (dropped (every_from l (l + k)) s) ≡ take (8 * first l) (encode s) ++ (replicate (8 * (2 * k)) 0 ++ drop (8 * first (l + k)) (encode s))
unfolding encode
encode_emptied l k s g =
    ap (λ (ws : List ℕ). bytes_of_all (s.width ∷ s.flags ∷ s.cr3 ∷ s.victims ∷ ws)) (words_emptied 100 l k s.slots (replicate 52 0) g)
    ∙ put_zeros (first l) (2 * k) (first (l + k)) (words_in s)

pub bytes_emptied : (l k : ℕ) (b : List ℕ) → IsImage b → l + k ≤ 100
    → dropped_in (every_from l (l + k)) b ≡ take (32 + l * 16) b ++ (replicate (k * 16) 0 ++ drop (k * 16) (drop (32 + l * 16) b))
unfolding dropped_in
bytes_emptied l k b h g =
    let at : 8 * first l ≡ 32 + l * 16 = omega arith in
    let n : 8 * (2 * k) ≡ k * 16 = omega arith in
    let end : 8 * first (l + k) ≡ 32 + l * 16 + k * 16 = omega arith in
    rw (drop-drop (k * 16) (32 + l * 16) b) (rw (at, n, end, h.says) at (encode_emptied l k (decode b) g))
