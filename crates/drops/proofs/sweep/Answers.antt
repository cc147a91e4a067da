use borrow.Author.Rules.{rules}
use Rattle.drops.proofs.DropLaws.{image_dropped}
use Rattle.drops.proofs.DropWays.{swept_none, swept_block, all_swept}
use Rattle.drops.proofs.sweep.Goals as goal

pub loop-block-init : goal.loop-block-init
loop-block-init c = search (swept_none, rules)

pub drop_block-requires : goal.drop_block-requires
drop_block-requires c = (search image_dropped, search rules)

pub loop-block-preserved : goal.loop-block-preserved
loop-block-preserved c = record { low = search rules; high = search rules; size = search rules; done = search swept_block }

pub returns : goal.returns
returns c = search all_swept
