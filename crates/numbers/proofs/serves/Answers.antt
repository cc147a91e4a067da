-- The bits that are needed are among the datum's.
use Rattle.numbers.proofs.Laws.{serves_is}
use Rattle.numbers.proofs.serves.Goals as goal

pub returns : goal.returns
returns c = search serves_is
