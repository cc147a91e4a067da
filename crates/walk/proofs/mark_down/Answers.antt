use Rattle.walk.proofs.Marking.{going_more, going_all}
use Rattle.walk.proofs.mark_down.Goals as goal

pub loop-level-preserved : goal.loop-level-preserved
loop-level-preserved c = search going_more

pub returns : goal.returns
returns c = search going_all
