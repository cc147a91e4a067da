-- The same run, whose number of bytes that are kept is bounded.
use Rattle.runs.proofs.Finishing.{finish_bounded}
use Rattle.runs.proofs.finish.Goals as goal

pub returns : goal.returns
returns c = search finish_bounded
