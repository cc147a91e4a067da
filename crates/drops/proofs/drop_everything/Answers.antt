-- There are no slots but the hundred.
use Rattle.drops.proofs.DropWays.{everything_dropped}
use Rattle.drops.proofs.drop_everything.Goals as goal

pub returns : goal.returns
returns c = search everything_dropped
