-- What the first two types ask.
use Rattle.refusals.proofs.Checks.{by_address_and_pcid, by_pcid}
use Rattle.refusals.proofs.no_invpcid.Goals as goal

pub returns-in-0 : goal.returns-in-0
returns-in-0 c = search by_address_and_pcid

pub returns-in-1 : goal.returns-in-1
returns-in-1 c = search by_pcid
