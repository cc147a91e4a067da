-- With neither SMEP nor SMAP on it is the kind.
use Rattle.numbers.proofs.Laws.{by_kind, kept_off}
use Rattle.numbers.proofs.access_of.Goals as goal

pub returns-then-flags-lt32 : goal.returns-then-flags-lt32
returns-then-flags-lt32 c = search by_kind

pub returns : goal.returns
returns c = search kept_off
