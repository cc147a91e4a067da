-- A journal and its 2,624 bytes say the same, where in the bytes each word of it stands, and what a store there does to its parts.
-- By `WordLaws` of the rules bytes are as good as words; of the 328 words the first eight are named, and the rest are records, five by five.
use Prim.Native.Nat.{ℕ, zero, suc, ◌+◌, ◌*◌, ◌^◌, ◌≤◌, ◌<◌}
use mathlib.Core.Path.{◌≡◌, refl, ap, sym, ◌∙◌, subst, fun_ext}
use mathlib.Core.Bool.{cond}
use mathlib.Core.List.{List, [], ◌∷◌, ◌++◌}
use native.Mathlib.Omega.{arith}
use native.Mathlib.Nat.{mul-suc}
use native.Mathlib.Numerals.{add_five}
use lib.ListN.{length, get_or, set, drop, length-drop, get_or-eq_default}
use lib.Seq.{get_or-drop, drop-cons, set_split, sets}
use lib.Dec.{eqb, eqb-suc-zero, eqb-zero-suc, eqb-suc-suc}
use Rattle.rules.specs.Bits.{AreBytes, AreWords, word_at, word_put, words_of, bytes_of_all}
use Rattle.rules.proofs.WordLaws.{all_length, words_all, all_words, word_at_lem, words_are, words_length}
use Rattle.rules.proofs.ImageLaws.{put_bytes}
use Rattle.journal.specs.Journal.{Record, Journal, blank, five_words, record_words, words_in, record_in, from_words, encode, decode, Sound, IsJournal}

-- ---- records are words five by five
abbrev records_in : List ℕ → ℕ → Record
records_in xs i =
    record {
      fault = record { page = get_or xs (5 * i) 0; code = get_or xs (suc (5 * i)) 0; root = get_or xs (suc (suc (5 * i))) 0 };
      first = get_or xs (suc (suc (suc (5 * i)))) 0;
      repeats = get_or xs (suc (suc (suc (suc (5 * i))))) 0;
    }

records_next : (p c r n m : ℕ) (xs : List ℕ) (i : ℕ) → records_in (p ∷ c ∷ r ∷ n ∷ m ∷ xs) (suc i) ≡ records_in xs i
records_next p c r n m xs i = rw (mul-suc 5 i, add_five)

records_from : (ws : List ℕ) (i : ℕ) → record_in ws i ≡ records_in (drop 8 ws) i
records_from ws i =
    let e1 : 8 + suc (5 * i) ≡ 9 + 5 * i = omega arith in
    let e2 : 8 + suc (suc (5 * i)) ≡ 10 + 5 * i = omega arith in
    let e3 : 8 + suc (suc (suc (5 * i))) ≡ 11 + 5 * i = omega arith in
    let e4 : 8 + suc (suc (suc (suc (5 * i)))) ≡ 12 + 5 * i = omega arith in
    simp (get_or-drop 8 ws, e1, e2, e3, e4)

records_back : (n : ℕ) (f : ℕ → Record) → ((i : ℕ) → n ≤ i → f i ≡ blank) → (i : ℕ) → records_in (record_words n f) i ≡ f i
records_back zero f h i = sym (h i (omega arith))
records_back (suc n) f h zero = refl
records_back (suc n) f h (suc i) = rw (mul-suc 5 i, add_five) (records_back n (λ j. f (suc j)) (λ j g. h (suc j) (omega arith)) i)

words_back : (n : ℕ) (xs : List ℕ) → length xs ≡ 5 * n → record_words n (records_in xs) ≡ xs
words_back zero [] h = refl
words_back zero (x ∷ xs) h = absurd (omega arith)
words_back (suc n) [] h = absurd (omega arith)
words_back (suc n) (p ∷ []) h = absurd (omega arith)
words_back (suc n) (p ∷ c ∷ []) h = absurd (omega arith)
words_back (suc n) (p ∷ c ∷ r ∷ []) h = absurd (omega arith)
words_back (suc n) (p ∷ c ∷ r ∷ f ∷ []) h = absurd (omega arith)
words_back (suc n) (p ∷ c ∷ r ∷ f ∷ m ∷ xs) h =
    rw (fun_ext (records_next p c r f m xs)) (ap (λ (l : List ℕ). p ∷ c ∷ r ∷ f ∷ m ∷ l) (words_back n xs (omega arith)))

-- ---- there and back
words_in_lem : (j : Journal) → ((i : ℕ) → 64 ≤ i → j.records i ≡ blank) → from_words (words_in j) ≡ j
words_in_lem j h =
    ap (λ (f : ℕ → Record). record { held = j.held; lost = j.lost; reports = j.reports; spare = j.spare; records = f })
    (fun_ext (λ i. records_from (words_in j) i ∙ records_back 64 j.records h i))

eight_named : (ws : List ℕ) → length ws ≡ 328
    → get_or ws 0 0 ∷ get_or ws 1 0 ∷ get_or ws 2 0 ∷ get_or ws 3 0 ∷ get_or ws 4 0 ∷ get_or ws 5 0 ∷ get_or ws 6 0 ∷ get_or ws 7 0 ∷ drop 8 ws ≡ ws
eight_named ws h =
    rw (
      ← drop-cons ws 7 0 (omega arith),
      ← drop-cons ws 6 0 (omega arith),
      ← drop-cons ws 5 0 (omega arith),
      ← drop-cons ws 4 0 (omega arith),
      ← drop-cons ws 3 0 (omega arith),
      ← drop-cons ws 2 0 (omega arith),
      ← drop-cons ws 1 0 (omega arith),
      ← drop-cons ws 0 0 (omega arith),
    )

words_out : (ws : List ℕ) → length ws ≡ 328 → words_in (from_words ws) ≡ ws
words_out ws h =
    ap (λ (l : List ℕ). get_or ws 0 0 ∷ get_or ws 1 0 ∷ get_or ws 2 0 ∷ get_or ws 3 0 ∷ get_or ws 4 0 ∷ get_or ws 5 0 ∷ get_or ws 6 0 ∷ get_or ws 7 0 ∷ l)
    (ap (record_words 64) (fun_ext (records_from ws)) ∙ words_back 64 (drop 8 ws) (length-drop 8 ws ∙ omega arith))
    ∙ eight_named ws h

words_end : (ws : List ℕ) → length ws ≡ 328 → (i : ℕ) → 64 ≤ i → record_in ws i ≡ blank
words_end ws h i g =
    rw (
      get_or-eq_default ws 0 {n = 8 + 5 * i} (omega arith),
      get_or-eq_default ws 0 {n = 9 + 5 * i} (omega arith),
      get_or-eq_default ws 0 {n = 10 + 5 * i} (omega arith),
      get_or-eq_default ws 0 {n = 11 + 5 * i} (omega arith),
      get_or-eq_default ws 0 {n = 12 + 5 * i} (omega arith),
    )

pub encode_length : (j : Journal) → length (encode j) ≡ 2624
unfolding encode
encode_length j = all_length (words_in j)

pub decode_encode : (j : Journal) → Sound j → decode (encode j) ≡ j
unfolding encode decode
decode_encode j q = ap from_words (words_all (words_in j) q.words) ∙ words_in_lem j q.beyond

pub encode_decode : (b : List ℕ) → AreBytes b → length b ≡ 2624 → encode (decode b) ≡ b
unfolding encode decode
encode_decode b h e = ap bytes_of_all (words_out (words_of 328 b) (words_length 328 b)) ∙ all_words 328 b h e

pub sound_decode : (b : List ℕ) → AreBytes b → Sound (decode b)
unfolding decode
sound_decode b h =
    record {
      words = subst AreWords (sym (words_out (words_of 328 b) (words_length 328 b))) (words_are 328 b h);
      beyond = words_end (words_of 328 b) (words_length 328 b);
    }

pub journal_of : (b : List ℕ) → AreBytes b → length b ≡ 2624 → IsJournal b
journal_of b h n = record { size = n; sound = sound_decode b h; says = encode_decode b h n }

pub is_encoded : (j : Journal) → Sound j → IsJournal (encode j)
is_encoded j q =
    let d : decode (encode j) ≡ j = decode_encode j q in
    record { size = encode_length j; sound = subst Sound (sym d) q; says = ap encode d }

-- ---- where words stand in the bytes
word_in : (b : List ℕ) (n at : ℕ) → n < 328 → 8 * n ≡ at → get_or (words_of 328 b) n 0 ≡ word_at b at
word_in b n at h e = rw e at (word_at_lem 328 n b h)

pub held_at_lem : (b : List ℕ) → (decode b).held ≡ word_at b 0
unfolding decode
held_at_lem b = word_in b 0 0 (omega arith) refl

pub lost_at : (b : List ℕ) → (decode b).lost ≡ word_at b 8
unfolding decode
lost_at b = word_in b 1 8 (omega arith) refl

pub reports_at : (b : List ℕ) → (decode b).reports ≡ word_at b 16
unfolding decode
reports_at b = word_in b 2 16 (omega arith) refl

module _ (b : List ℕ) (i : ℕ) (h : i < 64) where
  pub page_at_lem : ((decode b).records i).fault.page ≡ word_at b (64 + i * 40)
  unfolding decode
  page_at_lem = word_in b (8 + 5 * i) (64 + i * 40) (omega arith) (omega arith)

  pub code_at : ((decode b).records i).fault.code ≡ word_at b (64 + i * 40 + 8)
  unfolding decode
  code_at = word_in b (9 + 5 * i) (64 + i * 40 + 8) (omega arith) (omega arith)

  pub root_at : ((decode b).records i).fault.root ≡ word_at b (64 + i * 40 + 16)
  unfolding decode
  root_at = word_in b (10 + 5 * i) (64 + i * 40 + 16) (omega arith) (omega arith)

  pub repeats_at : ((decode b).records i).repeats ≡ word_at b (96 + i * 40)
  unfolding decode
  repeats_at = word_in b (12 + 5 * i) (96 + i * 40) (omega arith) (omega arith)

-- ---- a word stored
pub words_set : (ws : List ℕ) (n x : ℕ) → AreWords ws → x < 2 ^ 64 → AreWords (set ws n x)
words_set [] n x h g i = h i
words_set (w ∷ ws) zero x h g zero = g
words_set (w ∷ ws) zero x h g (suc i) = h (suc i)
words_set (w ∷ ws) (suc n) x h g zero = h 0
words_set (w ∷ ws) (suc n) x h g (suc i) = words_set ws n x (λ k. h (suc k)) g i

pub put_word : (ws : List ℕ) (n x : ℕ) → n < length ws → bytes_of_all (set ws n x) ≡ word_put (bytes_of_all ws) (8 * n) x
put_word ws n x h =
    let e : 8 * suc n ≡ 8 * n + 8 = omega arith in
    ap bytes_of_all (set_split ws n x h) ∙ rw e at (put_bytes n (suc n) (x ∷ []) ws)

-- the five words of record i
pub record_put : (n i : ℕ) (t : Record) (f : ℕ → Record) → i < n
    → record_words n (λ k. cond (eqb k i) t (f k))
    ≡ sets (record_words n f) (5 * i) (five_words t)
record_put zero i t f h = absurd (omega arith)
record_put (suc n) zero t f h = simp eqb-suc-zero
record_put (suc n) (suc i) t f h =
    rw (mul-suc 5 i, add_five)
    (simp (eqb-zero-suc, eqb-suc-suc)
    (ap (λ (l : List ℕ). five_words (f 0) ++ l) (record_put n i t (λ k. f (suc k)) (omega arith))))

-- its last word alone
pub repeats_put : (n i x : ℕ) (f : ℕ → Record) → i < n
    → record_words n (λ k. cond (eqb k i) (record { fault = (f i).fault; first = (f i).first; repeats = x }) (f k)) ≡ set (record_words n f) (4 + 5 * i) x
repeats_put zero i x f h = absurd (omega arith)
repeats_put (suc n) zero x f h = simp eqb-suc-zero
repeats_put (suc n) (suc i) x f h =
    let e : 4 + 5 * suc i ≡ suc (suc (suc (suc (suc (4 + 5 * i))))) = omega arith in
    rw e
    (simp (eqb-zero-suc, eqb-suc-suc)
    (ap (λ (l : List ℕ). five_words (f 0) ++ l) (repeats_put n i x (λ k. f (suc k)) (omega arith))))
