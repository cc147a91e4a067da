-- Four bits for each of six kinds.
use Rattle.numbers.proofs.Laws.{needed_is}
use Rattle.numbers.proofs.needed.Goals as goal

pub returns : goal.returns
returns c = search needed_is
