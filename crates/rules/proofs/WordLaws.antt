-- Words and bytes say the same: a number below 256 ^ n is its n lowest bytes, and n bytes are the bytes of their word; so for lists of words of
-- eight bytes. A number is its lowest byte and the rest, so each law goes by induction, one byte or one word at a time.
use Prim.Native.Nat.{ℕ, zero, suc, ◌+◌, ◌*◌, ◌/◌, ◌%◌, ◌^◌, ◌≤◌, ◌<◌}
use mathlib.Core.Path.{◌≡◌, refl, ap, ap₂, sym, ◌∙◌}
use mathlib.Core.Bool.{◌&&◌, and_assoc}
use mathlib.Core.List.{List, [], ◌∷◌, ◌++◌}
use native.Mathlib.Omega.{arith}
use native.Mathlib.Nat.{mul-suc}
use native.Mathlib.Numerals.{add_eight}
use lib.ListN.{length, get_or, take, drop, length-drop, take-append-drop}
use lib.Seq.{take-nil, drop-nil, drop-drop, length-take-le, get_or-drop}
use lib.Dec.{eqb, eqb-suc-zero}
use borrow.Author.Tests.{ne_eqb}
use Rattle.rules.specs.Bits.{AreBytes, AreWords, word, bytes_of, words_of, bytes_of_all}
use Rattle.rules.specs.Refusals.{all_zero}

-- ---- which lists are bytes
pub are_append : (xs ys : List ℕ) → AreBytes xs → AreBytes ys → AreBytes (xs ++ ys)
are_append [] ys h g i = g i
are_append (x ∷ xs) ys h g zero = h 0
are_append (x ∷ xs) ys h g (suc i) = are_append xs ys (λ j. h (suc j)) g i

pub are_take : (n : ℕ) (b : List ℕ) → AreBytes b → AreBytes (take n b)
are_take zero b h i = omega arith
are_take (suc n) [] h i = omega arith
are_take (suc n) (x ∷ b) h zero = h 0
are_take (suc n) (x ∷ b) h (suc i) = are_take n b (λ j. h (suc j)) i

pub are_drop : (n : ℕ) (b : List ℕ) → AreBytes b → AreBytes (drop n b)
are_drop n b h i = rw get_or-drop (h (n + i))

-- ---- a number and its n lowest bytes
pub bytes_length : (n x : ℕ) → length (bytes_of n x) ≡ n
bytes_length zero x = refl
bytes_length (suc n) x = ap suc (bytes_length n (x / 256))

pub bytes_are : (n x : ℕ) → AreBytes (bytes_of n x)
bytes_are zero x i = omega arith
bytes_are (suc n) x zero = omega arith
bytes_are (suc n) x (suc i) = bytes_are n (x / 256) i

pub word_bytes : (n x : ℕ) → x < 256 ^ n → word (bytes_of n x) ≡ x
word_bytes zero x h = omega arith
word_bytes (suc n) x h = omega (arith, word_bytes n (x / 256) (omega arith))

pub bytes_word : (b : List ℕ) → AreBytes b → bytes_of (length b) (word b) ≡ b
bytes_word [] h = refl
bytes_word (x ∷ b) h =
    let low : (x + 256 * word b) % 256 ≡ x = omega (arith, h 0) in
    let high : (x + 256 * word b) / 256 ≡ word b = omega (arith, h 0) in
    rw (low, high, bytes_word b (λ i. h (suc i)))

pub word_lt : (n : ℕ) (b : List ℕ) → AreBytes b → word (take n b) < 256 ^ n
word_lt zero b h = omega arith
word_lt (suc n) [] h = omega (arith, word_lt n [] h)
word_lt (suc n) (x ∷ b) h = omega (arith, h 0, word_lt n b (λ i. h (suc i)))

-- ---- words of 64 bits and their bytes
pub all_length : (ws : List ℕ) → length (bytes_of_all ws) ≡ 8 * length ws
all_length [] = refl
all_length (w ∷ ws) = omega (arith, all_length ws)

pub all_are : (ws : List ℕ) → AreBytes (bytes_of_all ws)
all_are [] = λ i. omega arith
all_are (w ∷ ws) = are_append (bytes_of 8 w) (bytes_of_all ws) (bytes_are 8 w) (all_are ws)

pub words_all : (ws : List ℕ) → AreWords ws → words_of (length ws) (bytes_of_all ws) ≡ ws
words_all [] h = refl
words_all (w ∷ ws) h = ap₂ (λ (x : ℕ) (xs : List ℕ). x ∷ xs) (word_bytes 8 w (h 0)) (words_all ws (λ i. h (suc i)))

rest_length : (n : ℕ) (b : List ℕ) → length b ≡ 8 * suc n → length (drop 8 b) ≡ 8 * n
rest_length n b e = rw length-drop (omega arith)

pub all_words : (n : ℕ) (b : List ℕ) → AreBytes b → length b ≡ 8 * n → bytes_of_all (words_of n b) ≡ b
all_words zero [] h e = refl
all_words zero (x ∷ b) h e = absurd (omega arith)
all_words (suc n) b h e =
    let t : length (take 8 b) ≡ 8 = length-take-le 8 b (omega arith) in
    let eight : bytes_of 8 (word (take 8 b)) ≡ take 8 b = rw t at (bytes_word (take 8 b) (are_take 8 b h)) in
    ap₂ ◌++◌ eight (all_words n (drop 8 b) (are_drop 8 b h) (rest_length n b e)) ∙ take-append-drop 8 b

pub word_at_lem : (n i : ℕ) (b : List ℕ) → i < n → get_or (words_of n b) i 0 ≡ word (take 8 (drop (8 * i) b))
word_at_lem zero i b h = absurd (omega arith)
word_at_lem (suc n) zero b h = refl
word_at_lem (suc n) (suc i) b h =
    let e : 8 * suc i ≡ 8 + 8 * i = omega arith in
    rw (e, ← drop-drop) (word_at_lem n i (drop 8 b) (omega arith))

pub words_are : (n : ℕ) (b : List ℕ) → AreBytes b → AreWords (words_of n b)
words_are zero b h i = omega arith
words_are (suc n) b h zero = word_lt 8 b h
words_are (suc n) b h (suc i) = words_are n (drop 8 b) (are_drop 8 b h) i

pub words_length : (n : ℕ) (b : List ℕ) → length (words_of n b) ≡ n
words_length zero b = refl
words_length (suc n) b = ap suc (words_length n (drop 8 b))

-- ---- some words of many are some bytes of many
pub all_append : (vs ws : List ℕ) → bytes_of_all (vs ++ ws) ≡ bytes_of_all vs ++ bytes_of_all ws
all_append [] ws = refl
all_append (v ∷ vs) ws = ap (λ (l : List ℕ). bytes_of 8 v ++ l) (all_append vs ws)

pub all_take : (n : ℕ) (ws : List ℕ) → bytes_of_all (take n ws) ≡ take (8 * n) (bytes_of_all ws)
all_take zero ws = refl
all_take (suc n) [] = rw take-nil
all_take (suc n) (w ∷ ws) = rw (mul-suc 8 n, add_eight) (ap (λ (l : List ℕ). bytes_of 8 w ++ l) (all_take n ws))

pub all_drop : (n : ℕ) (ws : List ℕ) → bytes_of_all (drop n ws) ≡ drop (8 * n) (bytes_of_all ws)
all_drop zero ws = refl
all_drop (suc n) [] = rw drop-nil
all_drop (suc n) (w ∷ ws) = rw (mul-suc 8 n, add_eight) (all_drop n ws)

-- ---- zero words are zero bytes
zero_sum : (x w : ℕ) → eqb (x + 256 * w) 0 ≡ (eqb x 0 && eqb w 0)
zero_sum zero zero = refl
zero_sum zero (suc w) = ne_eqb (0 + 256 * suc w) 0 (omega arith) ∙ sym (eqb-suc-zero w)
zero_sum (suc x) w = rw eqb-suc-zero (ne_eqb (suc x + 256 * w) 0 (omega arith))

zero_word : (b : List ℕ) → eqb (word b) 0 ≡ all_zero b
zero_word [] = refl
zero_word (x ∷ b) = rw (zero_sum, zero_word b)

pub zero_append : (xs ys : List ℕ) → all_zero (xs ++ ys) ≡ (all_zero xs && all_zero ys)
zero_append [] ys = refl
zero_append (x ∷ xs) ys = rw (zero_append xs ys, and_assoc)

pub zero_tail : (n k : ℕ) (b : List ℕ) → length b ≡ 8 * n → k ≤ n → all_zero (drop k (words_of n b)) ≡ all_zero (drop (8 * k) b)
zero_tail zero zero [] e h = refl
zero_tail zero zero (x ∷ b) e h = absurd (omega arith)
zero_tail zero (suc k) b e h = absurd (omega arith)
zero_tail (suc n) zero b e h =
    rw (zero_word (take 8 b), zero_tail n 0 (drop 8 b) (rest_length n b e) (omega arith))
    (sym (zero_append (take 8 b) (drop 8 b)) ∙ ap all_zero (take-append-drop 8 b))
zero_tail (suc n) (suc k) b e h =
    let q : 8 * suc k ≡ 8 + 8 * k = omega arith in
    rw (q, ← drop-drop) (zero_tail n k (drop 8 b) (rest_length n b e) (omega arith))
