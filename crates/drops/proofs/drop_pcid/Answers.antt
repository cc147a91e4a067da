-- Bits 13 down to 2 are the PCID, and bit 1 is clear.
use Rattle.drops.proofs.DropWays.{pcid_dropped}
use borrow.Author.Rules.{rules}
use Rattle.drops.proofs.drop_pcid.Goals as goal

pub returns : goal.returns
returns c = search (pcid_dropped, rules)
