-- The loop's invariant: the digits that are left, those of what is left of the number, stand before those written (`Written`).
use Rattle.printing.proofs.Backward.{Written}
use Rattle.printing.proofs.put_digits.Given as goal

abbrev pub invariant-loop-i : goal.invariant-loop-i
invariant-loop-i l = Written l.initial.out l.out l.at l.n l.x l.i l.rest
