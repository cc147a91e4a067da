-- The line is printed behind what stands there, and its answer is counted.
use Rattle.runs.proofs.Ending.{line_ended}
use Rattle.runs.proofs.end_line.Goals as goal

pub returns : goal.returns
returns c = line_ended _ _ _ _ _ _ _ _ _ _ _ _ c.requires.1 c.line-n.ensures _ _ c.read_from.ensures c.count.ensures
