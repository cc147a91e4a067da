-- The first that holds the page is asked; or none of this size holds it.
use Rattle.buffer.proofs.Looking.{held_middle}
use Rattle.direct.proofs.look_middle.Goals as goal

pub answer_held-requires : goal.answer_held-requires
answer_held-requires c = (c.requires.0, held_middle _ _ c.requires.1 _ c.held.ensures _ _ c.in-Some.is)
