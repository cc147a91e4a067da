-- A refusal of image, kind or memory, and else the address's own.
use Rattle.refusals.proofs.Checks.{by_first, by_address}
use Rattle.refusals.proofs.asked.Asked.refusal.Goals as goal

pub returns-then-self-kind : goal.returns-then-self-kind
returns-then-self-kind c = search by_first

pub returns : goal.returns
returns c = search by_address
