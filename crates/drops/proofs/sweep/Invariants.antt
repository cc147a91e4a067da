-- Five sets a turn: before a turn the slots of the blocks before it are done (`Swept`).
use Prim.Native.Nat.{◌*◌}
use Rattle.drops.proofs.DropWays.{Swept}
use Rattle.drops.proofs.sweep.Given as goal

abbrev pub invariant-loop-block : goal.invariant-loop-block
invariant-loop-block l = Swept l.initial.image l.image 0 100 (l.block * 20) l.asked.mask l.asked.want 0 0
