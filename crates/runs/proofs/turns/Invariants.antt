-- What was taken, with what the rest takes, is the whole (`Feeding`).
use Prim.Native.Nat.{◌-◌}
use lib.ListN.{length}
use Rattle.runs.proofs.Feeding.{Feeding}
use Rattle.runs.proofs.turns.Given as goal

abbrev pub invariant-loop-image : goal.invariant-loop-image
invariant-loop-image l = Feeding l.initial.fed.run l.initial.image l.initial.mem l.initial.kept l.piece l.initial.out l.image l.mem l.kept l.out l.fed

abbrev pub decreases-loop-image : goal.decreases-loop-image
decreases-loop-image l = length l.piece - l.fed.taken
