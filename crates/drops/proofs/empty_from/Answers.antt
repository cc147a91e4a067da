-- The bytes of the slots are zero, and the others stay.
use Rattle.drops.proofs.DropWays.{slots_cleared}
use Rattle.drops.proofs.empty_from.Goals as goal

pub returns : goal.returns
returns c = search slots_cleared
