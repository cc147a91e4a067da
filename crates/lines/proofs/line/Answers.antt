-- The order is done, and its answer read back and printed.
use Rattle.lines.proofs.Answering.{line_printed}
use Rattle.lines.proofs.line.Goals as goal

pub returns : goal.returns
returns c = search line_printed
