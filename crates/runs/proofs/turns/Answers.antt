use Rattle.runs.proofs.Feeding.{feeding_all}
use Rattle.runs.proofs.turns.Goals as goal

pub returns : goal.returns
returns c = search feeding_all
