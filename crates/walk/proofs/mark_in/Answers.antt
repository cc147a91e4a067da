-- Outside the part there is nothing to set; inside it the `or` of a byte sets its marks.
use Rattle.walk.proofs.Marking.{mark_inside}
use Rattle.walk.proofs.mark_in.Goals as goal

pub returns : goal.returns
returns c = search mark_inside
