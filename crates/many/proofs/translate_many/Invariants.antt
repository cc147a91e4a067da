-- Before each turn, what is done with the calls of the pairs that are left is the whole (`Done`).
use Rattle.rules.specs.Memory.{both}
use Rattle.many.proofs.Pairs.{Done}
use Rattle.many.proofs.translate_many.Given as goal

abbrev pub invariant-loop-i : goal.invariant-loop-i
invariant-loop-i l = Done l.pairs l.initial.answers l.initial.image (both l.initial.low l.initial.high) l.asked l.n l.answers l.image (both l.low l.high) l.i
