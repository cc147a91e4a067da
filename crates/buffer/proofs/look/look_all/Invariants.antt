-- What is left to look at, from the k-th way on, has the same first match.
use Rattle.buffer.proofs.Looking.{Searched}
use Rattle.buffer.proofs.look.look_all.Given as goal

abbrev pub invariant-loop-k : goal.invariant-loop-k
invariant-loop-k l = Searched l.image l.a l.k
