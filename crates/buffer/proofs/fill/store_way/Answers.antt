-- A way's 16 bytes within its set's 64 are its slot's 16 bytes within the image (`within`).
use Rattle.buffer.proofs.Fills.{way_stored}
use Rattle.buffer.proofs.fill.store_way.Goals as goal

pub returns : goal.returns
returns c = search way_stored
