-- The two flags.
use Rattle.numbers.proofs.Laws.{tells_is}
use Rattle.numbers.proofs.tells_fetch.Goals as goal

pub returns : goal.returns
returns c = search tells_is
