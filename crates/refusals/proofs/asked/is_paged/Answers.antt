-- A fit image has its flags where they are read.
use Rattle.refusals.proofs.Checks.{paging_is}
use Rattle.refusals.proofs.asked.is_paged.Goals as goal

pub returns : goal.returns
returns c = search paging_is
