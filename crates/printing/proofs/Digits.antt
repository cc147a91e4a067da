-- A number's digits: by the last of them, and without leading zeros, of which the number of digits is told by the highest bit.
use Prim.Native.Nat.{ℕ, zero, suc, ◌+◌, ◌-◌, ◌*◌, ◌/◌, ◌%◌, ◌^◌, ◌≤◌, ◌<◌}
use mathlib.Core.Path.{◌≡◌, refl, ap, ◌∙◌}
use mathlib.Core.List.{List, [], ◌∷◌, ◌++◌}
use native.Mathlib.Omega.{arith}
use native.Mathlib.Nat.{zero-add, suc-add, pow-suc, pow-succ', pow-le-pow_right, one-le-pow}
use native.Mathlib.Nat.{div-one, div-div-eq-div-mul, div-eq_of_lt, div-lt_iff_lt-mul, le-div_iff_mul-le, mod-eq_of_lt, le_trans, lt_of_lt_of_le}
use lib.ListN.{length}
use lib.Pow.{pow-add, pow_mono}
use native.Mathlib.Numerals.{add-one}
use Rattle.trace.specs.Numbers.{digits, trimmed}
use Rattle.printing.specs.Parts.{Counts}

-- ---- all digits
pub length_digits : (n x : ℕ) → length (digits n x) ≡ n
unfolding digits
length_digits zero x = refl
length_digits (suc n) x = ap suc (length_digits n x)

pub digits_last : (n x : ℕ) → digits (suc n) x ≡ digits n (x / 16) ++ (x % 16 ∷ [])
unfolding digits
digits_last zero x = rw (div-one x)
digits_last (suc n) x = rw (digits_last n x, div-div-eq-div-mul x 16 (16 ^ n), pow-succ' 16 n)

-- ---- those from the first that is not 0
trim_zero : (ds : List ℕ) → 0 < length ds → trimmed (0 ∷ ds) ≡ trimmed ds
unfolding trimmed
trim_zero [] h = absurd (omega arith)
trim_zero (d ∷ ds) h = refl

trim_kept : (d : ℕ) (ds : List ℕ) → 0 < d → trimmed (d ∷ ds) ≡ d ∷ ds
unfolding trimmed
trim_kept d [] h = refl
trim_kept zero (e ∷ ds) h = absurd (omega arith)
trim_kept (suc d) (e ∷ ds) h = refl

-- k more digits in front of all are zeros
trim_more : (k m x : ℕ) → x < 16 ^ suc m → trimmed (digits (k + suc m) x) ≡ trimmed (digits (suc m) x)
unfolding digits
trim_more zero m x h = rw (zero-add (suc m))
trim_more (suc k) m x h =
    let g : suc m ≤ k + suc m = omega arith in
    let b : x < 16 ^ (k + suc m) = lt_of_lt_of_le h (pow-le-pow_right {n = 16} (omega arith) g) in
    rw (suc-add k (suc m), div-eq_of_lt b)
    (trim_zero (digits (k + suc m) x) (omega (arith, length_digits (k + suc m) x)) ∙ trim_more k m x h)

trim_whole : (m x : ℕ) → 16 ^ m ≤ x → x < 16 ^ suc m → trimmed (digits (suc m) x) ≡ digits (suc m) x
unfolding digits
trim_whole m x l h =
    let p : 0 < 16 ^ m = one-le-pow m 16 (omega arith) in
    let u : x / 16 ^ m < 16 = (div-lt_iff_lt-mul {k = 16 ^ m} {x = x} {y = 16} p).1 (rw (pow-succ' 16 m) at h) in
    let v : 1 ≤ x / 16 ^ m = (le-div_iff_mul-le {k = 16 ^ m} {x = 1} {y = x} p).1 (omega arith) in
    trim_kept (x / 16 ^ m % 16) (digits m x) (rw (mod-eq_of_lt u) v)

-- below 16 there is one, the number itself
pub trim_one : (x : ℕ) → x < 16 → trimmed (digits 16 x) ≡ x ∷ []
unfolding digits trimmed
trim_one x h = trim_more 15 0 x h ∙ rw (div-one x, mod-eq_of_lt h)

-- ---- how many
sixteens : (m : ℕ) → 16 ^ m ≡ 2 ^ (m * 4)
sixteens zero = refl
sixteens (suc m) = let e : suc m * 4 ≡ m * 4 + 4 = omega arith in rw (e, pow-add 2 (m * 4) 4, ← sixteens m) (pow-suc 16 m)

counted : (m x : ℕ) → m ≤ 15 → 16 ^ m ≤ x → x < 16 ^ suc m → Counts x (suc m)
counted m x f l h =
    let e : 15 - m + suc m ≡ 16 = omega arith in
    record { few = omega arith; same = rw e at (trim_more (15 - m) m x h) ∙ trim_whole m x l h }

-- the highest bit is bit j, and its digit is digit j / 4
pub count_found : (x j : ℕ) → 2 ^ j ≤ x → x < 2 * 2 ^ j → j < 64 → Counts x (j / 4 + 1)
count_found x j l h b =
    let k : j / 4 * 4 ≤ j = omega arith in
    let u : suc j ≤ suc (j / 4) * 4 = omega arith in
    let g : x < 2 ^ suc j = rw pow-suc (omega arith) in
    rw (add-one (j / 4))
    (counted (j / 4) x (omega arith) (rw (sixteens (j / 4)) (le_trans (pow_mono k) l))
    (rw (sixteens (suc (j / 4))) (lt_of_lt_of_le g (pow_mono u))))
