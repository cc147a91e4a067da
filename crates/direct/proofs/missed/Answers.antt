-- The walk's answer is written.
use Rattle.direct.proofs.Serving.{recorded}
use Rattle.direct.proofs.missed.Goals as goal

pub returns : goal.returns
returns c = search recorded
