-- Of the four lowest bytes together bit 0 is that of one of them.
use Rattle.sets.proofs.FourTags.{any_odd}
use Rattle.sets.proofs.tags.any_in.Goals as goal

pub returns : goal.returns
returns c = search any_odd
