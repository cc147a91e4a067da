-- What setting bit k of a number does to its bits and parts, for every k.
-- With q = x / 2 ^ k, setting bit k adds (1 - q % 2) * 2 ^ k to x: a multiple of 2 ^ k, so nothing below bit k changes, and q becomes
-- q + (1 - q % 2), which is odd and has the half of q, so bit k is set and nothing above it changes.
use Prim.Native.Nat.{ℕ, zero, suc, ◌+◌, ◌-◌, ◌*◌, ◌/◌, ◌%◌, ◌^◌, ◌≤◌, ◌<◌}
use mathlib.Core.Path.{◌≡◌, refl, ap, sym, ◌∙◌}
use mathlib.Core.Logic.{◌≢◌}
use mathlib.Core.Bool.{Bool, true, false}
use native.Mathlib.Omega.{arith}
use native.Mathlib.Numerals.{add-one}
use native.Mathlib.Nat.{mod-lt, mod-one, zero-mul, mul-mod_left, div-eq_of_lt, div-lt_iff_lt-mul, add-mul-div_right, add-mul-mod_self_right}
use native.Mathlib.Decide.{ℕ_discrete, dec_lt}
use lib.Pow.{pow_pos, shl_lt, shr-shr, field, mod-mod-pow}
use lib.Dec.{eqb}
use borrow.Author.Tests.{eqb-true, eq-eqb}
use Rattle.rules.specs.Bits.{bit, is_on, part, with_bit, one}

-- ---- what a bit and a part depend on
pub bit_low : (j k x y : ℕ) → j < k → x % 2 ^ k ≡ y % 2 ^ k → bit j x ≡ bit j y
bit_low j k x y h e = sym (cut x) ∙ ap (λ (z : ℕ). z % 2 ^ (1 + j) / 2 ^ j) e ∙ cut y
  where
    cut : (z : ℕ) → z % 2 ^ k % 2 ^ (1 + j) / 2 ^ j ≡ bit j z
    cut z =
        let q : k - (1 + j) + (1 + j) ≡ k = omega arith in
        ap (λ (w : ℕ). w / 2 ^ j) (rw q at (mod-mod-pow z (k - (1 + j)) (1 + j))) ∙ field z 1 j

pub above : (k i x y : ℕ) → k ≤ i → x / 2 ^ k ≡ y / 2 ^ k → x / 2 ^ i ≡ y / 2 ^ i
above k i x y h e =
    let q : k + (i - k) ≡ i = omega arith in
    rw q at (sym (shr-shr x k (i - k)) ∙ ap (λ (z : ℕ). z / 2 ^ (i - k)) e ∙ shr-shr y k (i - k))

pub bit_high : (k i x y : ℕ) → k ≤ i → x / 2 ^ k ≡ y / 2 ^ k → bit i x ≡ bit i y
bit_high k i x y h e = ap (λ (z : ℕ). z % 2) (above k i x y h e)

pub part_high : (k h l x y : ℕ) → k ≤ l → x / 2 ^ k ≡ y / 2 ^ k → part h l x ≡ part h l y
part_high k h l x y g e = ap (λ (z : ℕ). z % 2 ^ (h - l) * 2 ^ l) (above k l x y g e)

pub part_none : (h l x : ℕ) → h ≤ l → part h l x ≡ 0
part_none h l x g =
    let d : h - l ≡ 0 = omega arith in
    rw (d, mod-one (x / 2 ^ l), zero-mul)

-- ---- setting a bit
set_here : (k x : ℕ) → with_bit k x / 2 ^ k ≡ x / 2 ^ k + (1 - bit k x)
set_here k x = add-mul-div_right x (1 - bit k x) (pow_pos k)

odd_half : (q : ℕ) → (q + (1 - q % 2)) / 2 ≡ q / 2
odd_half q = omega arith

odd : (q : ℕ) → (q + (1 - q % 2)) % 2 ≡ 1
odd q = omega arith

pub set_above : (k x : ℕ) → with_bit k x / 2 ^ suc k ≡ x / 2 ^ suc k
set_above k x = rw add-one at (sym (shr-shr (with_bit k x) k 1) ∙ ap (λ (q : ℕ). q / 2) (set_here k x) ∙ odd_half (x / 2 ^ k) ∙ shr-shr x k 1)

pub set_below : (k x : ℕ) → with_bit k x % 2 ^ k ≡ x % 2 ^ k
set_below k x = add-mul-mod_self_right x (1 - bit k x) (2 ^ k)

pub set_on : (k x : ℕ) → is_on k (with_bit k x) ≡ true
set_on k x = eq-eqb _ _ (ap (λ (q : ℕ). q % 2) (set_here k x) ∙ odd (x / 2 ^ k))

pub set_other : (j k x : ℕ) → j ≢ k → bit j (with_bit k x) ≡ bit j x
set_other j k x h = go (dec_lt j k)
  where
    go : Dec (j < k) → bit j (with_bit k x) ≡ bit j x
    go (yes l) = bit_low j k _ _ l (set_below k x)
    go (no g) = bit_high (suc k) j _ _ (omega arith) (set_above k x)

-- a bit that is set stays set, whichever is set besides
pub set_keeps : (j k x : ℕ) → is_on k x ≡ true → is_on k (with_bit j x) ≡ true
set_keeps j k x h = go (ℕ_discrete k j)
  where
    go : Dec (k ≡ j) → is_on k (with_bit j x) ≡ true
    go (yes e) = rw e (set_on j x)
    go (no n) = rw (set_other k j x n) h

pub on_stays : (k x : ℕ) → is_on k x ≡ true → with_bit k x ≡ x
on_stays k x h = rw (eqb-true (bit k x) 1 h) (omega arith)

pub set_twice : (k x : ℕ) → with_bit k (with_bit k x) ≡ with_bit k x
set_twice k x = on_stays k (with_bit k x) (set_on k x)

pub set_order : (j k x : ℕ) → with_bit j (with_bit k x) ≡ with_bit k (with_bit j x)
set_order j k x = go (ℕ_discrete j k)
  where
    go : Dec (j ≡ k) → with_bit j (with_bit k x) ≡ with_bit k (with_bit j x)
    go (yes e) = rw e
    go (no h) = rw (set_other j k x h, set_other k j x (λ (e : k ≡ j). h (sym e))) (omega arith)

-- ---- a flag as a bit, and back
pub one_le : (b : Bool) → one b ≤ 1
one_le true = omega arith
one_le false = omega arith

pub flag_back : (b : Bool) (x : ℕ) → x ≡ one b → eqb x 1 ≡ b
flag_back true x e = rw e
flag_back false x e = rw e

pub odd_one : (p : ℕ) → p < 2 → p ≡ one (eqb p 1)
odd_one zero h = refl
odd_one (suc zero) h = refl
odd_one (suc (suc p)) h = absurd (omega arith)

pub on_one : (k x : ℕ) → bit k x ≡ one (is_on k x)
on_one k x = odd_one (bit k x) (omega arith)

-- ---- bounds
pub set_lt : (k n x : ℕ) → k < n → x < 2 ^ n → with_bit k x < 2 ^ n
set_lt k n x h g =
    let e : with_bit k x / 2 ^ n ≡ 0 = above (suc k) n _ _ h (set_above k x) ∙ div-eq_of_lt g in
    omega (arith, (div-lt_iff_lt-mul {x = with_bit k x} {y = 1} (pow_pos n)).0 (omega arith))

pub part_lt : (h l x : ℕ) → l ≤ h → part h l x < 2 ^ h
part_lt h l x g =
    let q : h - l + l ≡ h = omega arith in
    rw q at (shl_lt (h - l) l (mod-lt (x / 2 ^ l) (pow_pos (h - l))))

pub part_multiple : (h l x : ℕ) → part h l x % 2 ^ l ≡ 0
part_multiple h l x = mul-mod_left _ (2 ^ l)
