-- Where no way is held there is nothing to drop.
use Rattle.drops.proofs.DropWays.{none_held}
use Rattle.drops.proofs.drop_held.Goals as goal

pub returns-else-any_in : goal.returns-else-any_in
returns-else-any_in c = search none_held
