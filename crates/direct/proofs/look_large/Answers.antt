-- The first that holds the page is asked; or nothing is held.
use Rattle.buffer.proofs.Looking.{held_is, held_large}
use Rattle.direct.proofs.Serving.{nothing_first}
use borrow.Author.Rules.{rules}
use Rattle.direct.proofs.look_large.Goals as goal

pub answer_held-requires : goal.answer_held-requires
answer_held-requires c = (search rules, search (held_is, held_large))

pub returns-in-None : goal.returns-in-None
returns-in-None c = search (nothing_first, held_large)
