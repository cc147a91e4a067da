-- What the code asks of a page that a walk found: its size is one of the three, and its numbers do not overflow.
use Prim.Native.Nat.{ℕ, ◌+◌, ◌%◌, ◌^◌, ◌≤◌, ◌<◌}
use mathlib.Core.Path.{◌≡◌, sym, subst}
use mathlib.Core.Bool.{Bool}
use native.Mathlib.Omega.{arith}
use native.Mathlib.Nat.{mod-lt}
use Rattle.rules.specs.Sizes.{Is, size_at}
use Rattle.rules.specs.declared.Size.{Size}
use Rattle.rules.specs.declared.Rights.{Rights}
use Rattle.rules.specs.declared.Found.{Found}
use Rattle.rules.specs.declared.Found.TheVariants.{Page}
use Rattle.rules.proofs.SizeLaws.{size_at_lem, length_in}
use Rattle.paging.specs.Paged.{InRange}

module _ (f : Found) (base level n : ℕ) (r : Rights) (g d : Bool) (z : Size) (fits : InRange f) (e : f ≡ Page base level r g d n) (size : z ≡ size_at level) where
  page_fits : InRange (Page base level r g d n)
  page_fits = subst InRange e fits

  pub page_is : Is z
  page_is = subst Is (sym size) (size_at_lem level page_fits.1.0 page_fits.1.1)

  pub page_base : base < 2 ^ 52
  page_base = page_fits.0

  page_length : (1 ≤ z.length) × (z.length ≤ 2 ^ 30)
  page_length = length_in z page_is

  pub page_pos : 0 < z.length
  page_pos = page_length.0

  pub page_sum : (a : ℕ) → base + a % z.length < 2 ^ 64
  page_sum a = omega (arith, page_fits.0, page_length.1, mod-lt a page_length.0)
