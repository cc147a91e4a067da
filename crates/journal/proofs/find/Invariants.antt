-- The loop's invariant: the records passed are not of this fault.
use Prim.Native.Nat.{◌*◌}
use Rattle.journal.specs.Journal.{decode}
use Rattle.journal.proofs.Finding.{Passed}
use Rattle.journal.proofs.find.Given as goal

abbrev pub invariant-loop-four : goal.invariant-loop-four
invariant-loop-four l = Passed l.fault (decode l.journal) (4 * l.four)
