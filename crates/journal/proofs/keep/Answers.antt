-- The number held is one more, and the part that was lent is the record's.
use Rattle.journal.proofs.Reporting.{new_kept}
use Rattle.journal.proofs.keep.Goals as goal

pub returns : goal.returns
returns c = search new_kept
