-- The highest bit that is set stands in the first digit.
use Rattle.printing.proofs.Digits.{count_found}
use Rattle.printing.proofs.count.Goals as goal

pub returns : goal.returns
returns c = search count_found
