-- What the code computes, in the rules' names: a difference makes the bits of a range, and the row of an entry is the one whose test is met.
use Prim.Native.Nat.{ℕ, suc, ◌+◌, ◌-◌, ◌*◌, ◌/◌, ◌%◌, ◌^◌, ◌≤◌, ◌<◌}
use mathlib.Core.Path.{◌≡◌, ap, ◌∙◌}
use mathlib.Core.Bool.{Bool, true, false, not}
use mathlib.Core.List.{◌∷◌}
use native.Mathlib.Omega.{arith}
use lib.Pow.{high, pow_pos, pow_mono, ones_lt, ones_split}
use lib.Bits.{or_zero_r, or_shifted_r}
use Rattle.rules.specs.Bits.{one}
use Rattle.rules.specs.Formats.{◌‥◌, xd}
use Rattle.words.proofs.Laws.{one_shl}
use Rattle.formats.specs.Ranges.{ones_in, mask_of}

-- ---- range
ones : (h : ℕ) → h < 64 → 0xFFFFFFFFFFFFFFFF / 2 ^ (63 - h) ≡ 2 ^ suc h - 1
ones h g =
    let q : suc h + (63 - h) ≡ 64 = omega arith in
    rw q at (ap (λ (z : ℕ). z / 2 ^ (63 - h)) (ones_split (suc h) (63 - h)) ∙ high (2 ^ suc h - 1) (63 - h) (ones_lt (63 - h)))

module _ (h l : ℕ) (top : h < 64) (bottom : l < 64) (order : l ≤ h + 1) where
  below : 2 ^ l ≤ 2 ^ suc h
  below = pow_mono {i = l} {j = suc h} (omega arith)

  pub less : 1 * 2 ^ l % 2 ^ 64 - 1 ≤ 0xFFFFFFFFFFFFFFFF / 2 ^ (63 - h)
  less = rw (one_shl l 64 bottom, ones h top) (omega (arith, below))

  pub difference : 0xFFFFFFFFFFFFFFFF / 2 ^ (63 - h) - (1 * 2 ^ l % 2 ^ 64 - 1) ≡ ones_in (h ‥ l)
  difference = rw (one_shl l 64 bottom, ones h top) (omega (arith, pow_pos l, below))

-- ---- common
pub common_sum : (m : ℕ) (nxe : Bool) → mask_of (51 ‥ m ∷ xd nxe) ≡ one (not nxe) * 2 ^ 63 + (2 ^ 52 - 2 ^ m)
common_sum m true = rw or_zero_r (omega arith)
common_sum m false = or_shifted_r 1 63 (2 ^ 52 - 2 ^ m) (omega arith)

module _ (m a : ℕ) (nxe : Bool) (ha : a ≡ ones_in (51 ‥ m)) where
  pub common_on : nxe ≡ true → a ≡ mask_of (51 ‥ m ∷ xd nxe)
  common_on t = rw (common_sum m nxe, t, ha) (omega arith)

  module _ (b : ℕ) (hb : b ≡ ones_in (63 ‥ 63)) where
    pub common_lt : a + b < 2 ^ 64
    common_lt = rw (ha, hb) (omega arith)

    pub common_off : nxe ≡ false → a + b ≡ mask_of (51 ‥ m ∷ xd nxe)
    common_off t = rw (common_sum m nxe, t, ha, hb) (omega arith)
