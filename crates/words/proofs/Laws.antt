-- What the code computes, in the rules' names: the lowest byte of a word, eight stores put a word, an `or` over all bytes is 0 if each is, and shifts
-- and a remainder cut out a part.
use Prim.Native.Nat.{ℕ, zero, suc, ◌+◌, ◌-◌, ◌*◌, ◌/◌, ◌%◌, ◌^◌, ◌≤◌, ◌<◌}
use mathlib.Core.Path.{◌≡◌, refl, ap, sym, ◌∙◌}
use mathlib.Core.Bool.{◌&&◌, and-true, and_assoc}
use mathlib.Core.List.{List, [], ◌∷◌, ◌++◌, append_assoc}
use native.Mathlib.Omega.{arith}
use native.Mathlib.Nat.{mod-lt, one-mul, add-zero, div-div-eq-div-mul}
use lib.ListN.{length, get_or, take, drop, set}
use lib.Seq.{sets-eq, get_or-drop, drop-drop}
use lib.Dec.{eqb}
use lib.Pow.{field, pow_pos, shl_exact}
use lib.Bits.{bit_or}
use Rattle.std.specs.List.{fold}
use Rattle.rules.specs.Bits.{part, word, bytes_of, word_put}
use Rattle.rules.specs.Refusals.{all_zero}
use Rattle.words.proofs.Masks.{zero_or}

-- ---- a word read
word_first : (n : ℕ) (b : List ℕ) → word (take (suc n) b) ≡ get_or b 0 0 + 256 * word (take n (drop 1 b))
word_first zero [] = refl
word_first (suc n) [] = refl
word_first n (x ∷ b) = refl

pub word_next : (n at : ℕ) (b : List ℕ) → word (take (suc n) (drop at b)) ≡ get_or b at 0 + 256 * word (take n (drop (at + 1) b))
word_next n at b = word_first n (drop at b) ∙ rw (get_or-drop at b 0, add-zero, drop-drop 1 at b)

-- ---- a word written
bytes_eight : (x : ℕ) → bytes_of 8 x
    ≡ x % 256 ∷ (x / 0x100 % 256) ∷ (x / 0x10000 % 256) ∷ (x / 0x1000000 % 256) ∷ (x / 0x100000000 % 256) ∷ (x / 0x10000000000 % 256)
    ∷ (x / 0x1000000000000 % 256) ∷ (x / 0x100000000000000 % 256) ∷ []
bytes_eight x = simp div-div-eq-div-mul

pub put_eight : (s : List ℕ) (at x : ℕ) → at + 8 ≤ length s
    → set (set (set (set (set (set (set (set s at (x % 256)) (at + 1) (x / 0x100 % 256)) (at + 2) (x / 0x10000 % 256)) (at + 3) (x / 0x1000000 % 256))
    (at + 4) (x / 0x100000000 % 256)) (at + 5) (x / 0x10000000000 % 256)) (at + 6) (x / 0x1000000000000 % 256)) (at + 7) (x / 0x100000000000000 % 256)
    ≡ word_put s at x
put_eight s at x fits =
    let e1 : at + 1 ≡ suc at = omega arith in
    let e2 : at + 2 ≡ suc (suc at) = omega arith in
    let e3 : at + 3 ≡ suc (suc (suc at)) = omega arith in
    let e4 : at + 4 ≡ suc (suc (suc (suc at))) = omega arith in
    let e5 : at + 5 ≡ suc (suc (suc (suc (suc at)))) = omega arith in
    let e6 : at + 6 ≡ suc (suc (suc (suc (suc (suc at))))) = omega arith in
    let e7 : at + 7 ≡ suc (suc (suc (suc (suc (suc (suc at)))))) = omega arith in
    rw (e1, e2, e3, e4, e5, e6, e7)
    (sets-eq (x % 256 ∷ (x / 0x100 % 256) ∷ (x / 0x10000 % 256) ∷ (x / 0x1000000 % 256) ∷ (x / 0x100000000 % 256) ∷ (x / 0x10000000000 % 256)
    ∷ (x / 0x1000000000000 % 256) ∷ (x / 0x100000000000000 % 256) ∷ []) s at fits
    ∙ append_assoc (take at s) _ (drop (at + 8) s) ∙ ap (λ (l : List ℕ). take at s ++ (l ++ drop (at + 8) s)) (sym (bytes_eight x)))

-- ---- all bytes or-ed
or_all : (s : List ℕ) (a : ℕ) → eqb (fold bit_or a s) 0 ≡ (eqb a 0 && all_zero s)
or_all [] a = sym (and-true (eqb a 0))
or_all (x ∷ s) a = or_all s (bit_or a x) ∙ rw (zero_or a x) (and_assoc (eqb a 0) (eqb x 0) (all_zero s))

pub all_or : (s : List ℕ) (n : ℕ) → n ≡ fold bit_or 0 s → eqb n 0 ≡ all_zero s
all_or s n e = rw e (or_all s 0)

-- ---- a part cut out by shifts
pub one_shl : (k w : ℕ) → k < w → (1 * 2 ^ k) % 2 ^ w ≡ 2 ^ k
one_shl k w h = shl_exact {a = 1} 1 k w (omega arith) (omega arith) ∙ one-mul (2 ^ k)

pub part_shifts : (h l x : ℕ) → l ≤ h → h < 64 → (x % ((1 * 2 ^ h) % 2 ^ 64) / 2 ^ l * 2 ^ l) % 2 ^ 64 ≡ part h l x
part_shifts h l x g k =
    let q : h - l + l ≡ h = omega arith in
    let e : x % 2 ^ h / 2 ^ l ≡ x / 2 ^ l % 2 ^ (h - l) = rw q at (field x (h - l) l) in
    rw (one_shl h 64 k, e) (shl_exact (h - l) l 64 (mod-lt (x / 2 ^ l) (pow_pos (h - l))) (omega arith))
