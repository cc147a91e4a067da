-- The rules' walk writes what is done at each level and then below (`Going`): the levels before this one are still to come.
use Rattle.walk.proofs.Marking.{Going}
use Rattle.walk.proofs.mark_down.Given as goal

abbrev pub invariant-loop-level : goal.invariant-loop-level
invariant-loop-level l = Going l.initial.low l.initial.high l.root l.a l.last l.bits l.low l.high l.base l.x l._level
