-- Each number begins where the one before it ends.
use Rattle.printing.proofs.Putting.{fields_put}
use Rattle.printing.proofs.put_three.Goals as goal

pub returns : goal.returns
returns c = search fields_put
