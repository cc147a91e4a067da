-- What is left after the rest is what is left after the whole (`Feeding`).
use Prim.Native.Nat.{◌-◌}
use lib.ListN.{length}
use Rattle.replay.proofs.Feeding.{Feeding}
use Rattle.replay.proofs.feed_all.Given as goal

abbrev pub invariant-loop-at : goal.invariant-loop-at
invariant-loop-at g l =
    Feeding l.initial.run l.initial.image l.initial.mem l.initial.kept l.piece l.initial.out l.image l.mem l.kept l.out l.run l.at

abbrev pub decreases-loop-at : goal.decreases-loop-at
decreases-loop-at g l = length l.piece - l.at
