-- Ones, less those below.
use Rattle.formats.proofs.Laws.{less, difference}
use Rattle.formats.proofs.range.Goals as goal

pub overflow_sub-result-3 : goal.overflow_sub-result-3
overflow_sub-result-3 c = search less

pub returns : goal.returns
returns c = search difference
