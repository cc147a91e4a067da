-- A page number above a mask of the bits below it is one mask, and a set has four slots.
use Rattle.drops.proofs.DropWays.{page_dropped}
use borrow.Author.Rules.{rules}
use Rattle.drops.proofs.drop_page.Goals as goal

pub returns : goal.returns
returns c = search (page_dropped, rules)
