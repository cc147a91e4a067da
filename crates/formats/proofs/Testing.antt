-- An entry tested with the mask of ranges: nothing is left exactly if no bit of the ranges is set.
use Prim.Native.Nat.{ℕ, suc, ◌+◌, ◌-◌, ◌^◌, ◌<◌}
use mathlib.Core.Path.{◌≡◌, refl, ap, ap₂, ◌∙◌}
use mathlib.Core.Bool.{Bool, ◌&&◌, ◌||◌, not}
use mathlib.Core.List.{List, [], ◌∷◌}
use native.Mathlib.Omega.{arith}
use native.Mathlib.Decide.{dec_lt}
use lib.Dec.{eqb}
use lib.Pow.{pow-lt}
use lib.Bits.{bit_and, and_high, and_zero_r}
use Rattle.rules.specs.Bits.{part}
use Rattle.rules.specs.Formats.{Range, any_in}
use Rattle.rules.proofs.BoolLaws.{same}
use Rattle.rules.proofs.BitLaws.{part_none}
use Rattle.words.proofs.Masks.{zero_and_or}
use Rattle.formats.specs.Ranges.{ones_in, mask_of}

one_range : (r : Range) (t : ℕ) → bit_and t (ones_in r) ≡ part (suc r.high) r.low t
one_range r t = go (dec_lt (suc r.high) r.low)
  where
    go : Dec (suc r.high < r.low) → bit_and t (ones_in r) ≡ part (suc r.high) r.low t
    go (yes l) =
        let z : 2 ^ suc r.high - 2 ^ r.low ≡ 0 = omega (arith, pow-lt l) in
        rw (z, part_none (suc r.high) r.low t (omega arith)) (and_zero_r t)
    go (no g) =
        let q : suc r.high - r.low + r.low ≡ suc r.high = omega arith in
        rw q at (and_high t (suc r.high - r.low) r.low)

pub mask_test : (rs : List Range) (t : ℕ) → eqb (bit_and t (mask_of rs)) 0 ≡ not (any_in rs t)
mask_test [] t = ap (λ (n : ℕ). eqb n 0) (and_zero_r t)
mask_test (r ∷ rs) t =
    zero_and_or t (ones_in r) (mask_of rs)
    ∙ ap₂ (λ (n : ℕ) (b : Bool). eqb n 0 && b) (one_range r t) (mask_test rs t)
    ∙ same 2 (λ p q. p && not q) (λ p q. not (not p || q)) refl (eqb (part (suc r.high) r.low t) 0) (any_in rs t)
