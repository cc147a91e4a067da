-- One slot a turn: before turn i the slots before i are done (`Swept`).
use Rattle.drops.proofs.DropWays.{Swept}
use Rattle.drops.proofs.drop_from.Given as goal

abbrev pub invariant-loop-i : goal.invariant-loop-i
invariant-loop-i l = Swept l.initial.image l.image l.first l.end l.i l.asked.mask l.asked.want l.whose.mask l.whose.want
