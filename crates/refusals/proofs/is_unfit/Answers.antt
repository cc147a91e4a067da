-- The bytes from 1632 on are words 204 to 255.
use Rattle.refusals.proofs.Checks.{not_clear, unfit_is}
use Rattle.refusals.proofs.is_unfit.Goals as goal

pub returns-then-gather-ne0 : goal.returns-then-gather-ne0
returns-then-gather-ne0 c = search not_clear

pub returns : goal.returns
returns c = search unfit_is
