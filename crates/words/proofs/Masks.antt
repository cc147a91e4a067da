-- Conjunctions and disjunctions. With a mask that is one number above bit k and another below, a conjunction is that of the parts (and_split); with a flag at bit k above a
-- smaller mask it is that flag's bit and the conjunction with the smaller mask (and-flag), so a mask of flags is taken apart flag by flag.
use Prim.Native.Nat.{ℕ, zero, suc, ◌+◌, ◌*◌, ◌/◌, ◌%◌, ◌^◌, ◌<◌}
use mathlib.Core.Path.{◌≡◌, refl, ap, ap₂, sym, ◌∙◌}
use mathlib.Core.Bool.{Bool, true, false, ◌&&◌, ◌||◌}
use native.Mathlib.Omega.{arith}
use native.Mathlib.Nat.{mod-lt, zero-mul, zero-add}
use lib.Dec.{eqb}
use borrow.Author.Tests.{ne_eqb}
use lib.Arith.{bin_ind}
use lib.Pow.{pow_pos, split}
use lib.Bits.{bit_and, bit_or, and_block, and_mask, and_zero_r, or_add_and, and_le_r, and_shr, and_mod, or_shr, or_mod}
use Rattle.rules.specs.Bits.{is_on, one}
use Rattle.rules.proofs.BoolLaws.{same}
use Rattle.rules.proofs.BitLaws.{odd_one, on_one}

-- ---- a conjunction, flag by flag
pub and_one : (x : ℕ) (b : Bool) → bit_and x (one b) ≡ one (b && eqb (x % 2) 1)
and_one x true = and_mask x 1 ∙ odd_one (x % 2) (omega arith)
and_one x false = and_zero_r x

module _ (k x low : ℕ) (h : low < 2 ^ k) where
  pub and_split : (q : ℕ) → bit_and x (q * 2 ^ k + low) ≡ bit_and (x / 2 ^ k) q * 2 ^ k + bit_and (x % 2 ^ k) low
  and_split q =
      ap (λ (z : ℕ). bit_and z (q * 2 ^ k + low)) (sym (split x k)) ∙ and_block k (x / 2 ^ k) q (x % 2 ^ k) low (mod-lt x (pow_pos k)) h

  pub and_below : bit_and x low ≡ bit_and (x % 2 ^ k) low
  and_below = simp (zero-mul, zero-add, and_zero_r) at (and_split 0)

  pub and_flag : (b : Bool) → bit_and x (one b * 2 ^ k + low) ≡ one (b && is_on k x) * 2 ^ k + bit_and x low
  and_flag b = rw (and_split (one b), and_one (x / 2 ^ k) b, and_below)

-- ---- a disjunction has a bit if one side has it, and is 0 exactly if both sides are
pub or_on : (k x y : ℕ) → is_on k (bit_or x y) ≡ (is_on k x || is_on k y)
or_on k x y =
    rw (or_shr x y k, or_mod (x / 2 ^ k) (y / 2 ^ k) 1)
    (ap₂ (λ (p q : ℕ). eqb (bit_or p q) 1) (on_one k x) (on_one k y)
    ∙ same 2 (λ p q. eqb (bit_or (one p) (one q)) 1) (λ p q. p || q) refl (is_on k x) (is_on k y))

pub zero_or : (a b : ℕ) → eqb (bit_or a b) 0 ≡ (eqb a 0 && eqb b 0)
zero_or zero b = refl
zero_or (suc a) b =
    rw (ne_eqb (suc a) 0 (λ e. omega arith)) (ne_eqb (bit_or (suc a) b) 0 (λ e. omega (arith, or_add_and (suc a) b, and_le_r (suc a) b)))

-- ---- a conjunction with a disjunction is that of both conjunctions: so a mask that is made of masks is tested by testing each
both : (x y z : Bool) → bit_and (one x) (bit_or (one y) (one z)) ≡ bit_or (bit_and (one x) (one y)) (bit_and (one x) (one z))
both true true true = refl
both true true false = refl
both true false true = refl
both true false false = refl
both false y z = refl

and_or : (x y z : ℕ) → bit_and x (bit_or y z) ≡ bit_or (bit_and x y) (bit_and x z)
and_or =
    bin_ind (λ (n : ℕ). (y z : ℕ) → bit_and n (bit_or y z) ≡ bit_or (bit_and n y) (bit_and n z)) (λ y z. refl)
    (λ n ih y z.
    sym (split (bit_and n (bit_or y z)) 1)
    ∙ rw (and_shr n (bit_or y z) 1, or_shr y z 1, and_mod n (bit_or y z) 1, or_mod y z 1)
    (ap₂ (λ (p q : ℕ). p * 2 + q) (ih (y / 2) (z / 2)) (lowest n y z))
    ∙ rw (or_shr (bit_and n y) (bit_and n z) 1, and_shr n y 1, and_shr n z 1, or_mod (bit_and n y) (bit_and n z) 1, and_mod n y 1, and_mod n z 1) at
    (split (bit_or (bit_and n y) (bit_and n z)) 1))
  where
    lowest : (n y z : ℕ) → bit_and (n % 2) (bit_or (y % 2) (z % 2)) ≡ bit_or (bit_and (n % 2) (y % 2)) (bit_and (n % 2) (z % 2))
    lowest n y z =
        rw (odd_one (n % 2) (omega arith), odd_one (y % 2) (omega arith), odd_one (z % 2) (omega arith))
        (both (eqb (n % 2) 1) (eqb (y % 2) 1) (eqb (z % 2) 1))

pub zero_and_or : (x y z : ℕ) → eqb (bit_and x (bit_or y z)) 0 ≡ (eqb (bit_and x y) 0 && eqb (bit_and x z) 0)
zero_and_or x y z = ap (λ (n : ℕ). eqb n 0) (and_or x y z) ∙ zero_or (bit_and x y) (bit_and x z)
