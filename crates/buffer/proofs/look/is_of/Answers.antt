-- The word that is read is the slot's tag, whose fields are cut out as the definitions do.
use Rattle.buffer.proofs.Looking.{own_test}
use Rattle.buffer.proofs.look.is_of.Goals as goal

pub returns : goal.returns
returns c = search own_test
