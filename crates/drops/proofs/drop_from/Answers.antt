use borrow.Author.Rules.{rules}
use Rattle.drops.proofs.DropLaws.{image_dropped}
use Rattle.drops.proofs.DropWays.{swept_none, swept_more}
use Rattle.drops.proofs.drop_from.Goals as goal

pub loop-i-init : goal.loop-i-init
loop-i-init c = search swept_none

pub drop_slot-requires : goal.drop_slot-requires
drop_slot-requires c = (search image_dropped, search rules)

pub loop-i-preserved : goal.loop-i-preserved
loop-i-preserved c = record { low = search rules; high = search rules; size = search rules; done = search swept_more }
