-- Only bit 1 is asked for, and it is clear.
use Rattle.drops.proofs.DropWays.{not_global_dropped}
use borrow.Author.Rules.{rules}
use Rattle.drops.proofs.drop_not_global.Goals as goal

pub returns : goal.returns
returns c = search (not_global_dropped, rules)
