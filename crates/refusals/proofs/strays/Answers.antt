-- The flags are the word that was read.
use Rattle.refusals.proofs.Checks.{strayed}
use Rattle.refusals.proofs.strays.Goals as goal

pub returns : goal.returns
returns c = search strayed
