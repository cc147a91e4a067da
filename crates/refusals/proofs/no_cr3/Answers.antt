-- The flags and the width are the words that were read.
use Rattle.refusals.proofs.Checks.{width_low, no_cr3_is}
use borrow.Author.Rules.{rules}
use Rattle.refusals.proofs.no_cr3.Goals as goal

pub part-beyond-requires : goal.part-beyond-requires
part-beyond-requires c = (search width_low, search rules)

pub returns : goal.returns
returns c = search no_cr3_is
