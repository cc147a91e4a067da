-- What is not of high is of low.
use Rattle.walk.proofs.Marking.{mark_low}
use Rattle.walk.proofs.mark.Goals as goal

pub returns : goal.returns
returns c = search mark_low
