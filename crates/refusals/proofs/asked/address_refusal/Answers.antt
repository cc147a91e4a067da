-- With paging on the address has to be canonical.
use Rattle.refusals.proofs.Checks.{by_canonical}
use Rattle.refusals.proofs.asked.address_refusal.Goals as goal

pub returns-then-paged : goal.returns-then-paged
returns-then-paged c = search by_canonical
