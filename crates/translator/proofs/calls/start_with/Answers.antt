-- An image that is not refused has room for width and flags.
use Rattle.translator.proofs.Calling.{starts}
use Rattle.translator.proofs.calls.start_with.Goals as goal

pub returns : goal.returns
returns c = let h = c.in_default.ensures in search (starts, h)
