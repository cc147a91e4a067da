-- The loop's invariant: the ways passed are held, so that the first free one is among those left.
use Rattle.rules.specs.Image.{decode}
use Rattle.buffer.proofs.Fills.{Passed}
use Rattle.buffer.proofs.fill.free_way.Given as goal

abbrev pub invariant-loop-way : goal.invariant-loop-way
invariant-loop-way l = Passed (decode l.image) l.set l.way
