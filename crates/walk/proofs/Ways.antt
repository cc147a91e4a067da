-- The ways through the walk's smaller functions: what each return of the code has to show, from the tests on its way.
use Prim.Native.Nat.{ℕ, ◌+◌, ◌^◌, ◌<◌}
use mathlib.Core.Path.{◌≡◌}
use mathlib.Core.Bool.{Bool, true, false, not}
use native.Mathlib.Omega.{arith}
use lib.Dec.{ltb, eqb}
use lib.Bits.{bit_and}
use Rattle.rules.specs.Image.{nxe}
use Rattle.rules.specs.Formats.{rows, ranges_of}
use Rattle.rules.specs.declared.Control.{Control}
use Rattle.rules.proofs.BitLaws.{one_le}
use Rattle.formats.specs.Ranges.{mask_of}
use Rattle.formats.proofs.Laws.{common_sum}
use Rattle.formats.proofs.Testing.{mask_test}
use Rattle.walk.specs.Packed.{is_reserved_page}
use Rattle.walk.proofs.Masks.{not_not}

-- ---- is_reserved_page
pub reserved_page_test : (level t r : ℕ) → r ≡ mask_of (ranges_of (rows 52 true) level (ltb level 4)) → not (eqb (bit_and t r) 0) ≡ is_reserved_page level t
reserved_page_test level t r h = rw (h, mask_test (ranges_of (rows 52 true) level (ltb level 4)) t) (not_not _)

-- ---- bars_of
module _ (c : Control) (b : Bool) (r : ℕ) (nx : b ≡ nxe c.flags) (row : r ≡ mask_of (ranges_of (rows c.width b) 2 false)) where
  pub bars_lt : r + 0x81 < 2 ^ 64
  bars_lt = rw (row, nx, common_sum c.width (nxe c.flags)) (omega (arith, one_le (not (nxe c.flags))))
