-- Three calls.
use Rattle.trial.proofs.Beginning.{readied}
use Rattle.trial.proofs.guest.image.Goals as goal

pub returns : goal.returns
returns c = search readied
