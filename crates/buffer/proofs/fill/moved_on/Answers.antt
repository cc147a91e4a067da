-- The victim's two bits are taken out of the whole, and what is put in stays below 2 ^ 64 (`moved_lt`).
use Rattle.buffer.proofs.Fills.{moves, moves_lt}
use borrow.Author.Rules.{rules}
use Rattle.buffer.proofs.fill.moved_on.Goals as goal

pub overflow_add-result-2 : goal.overflow_add-result-2
overflow_add-result-2 c = search (moves_lt, rules)

pub returns : goal.returns
returns c = search moves
