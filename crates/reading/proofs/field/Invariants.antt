-- Digits are read up to i (`Read`), and the field ends at a tab or at the line's end.
use Rattle.reading.proofs.Scan.{Read}
use lib.ListN.{length}
use Prim.Native.Nat.{◌-◌}
use Rattle.reading.proofs.field.Given as goal

abbrev pub invariant-loop-i : goal.invariant-loop-i
invariant-loop-i l = Read l.line l.from l.value l.i

abbrev pub decreases-loop-i : goal.decreases-loop-i
decreases-loop-i l = length l.line - l.i
