-- The second word goes right behind the first, so both stand where the slot's 16 bytes do.
use Rattle.buffer.proofs.Fills.{both_written}
use Rattle.buffer.proofs.fill.store.Goals as goal

pub returns : goal.returns
returns c = search both_written
