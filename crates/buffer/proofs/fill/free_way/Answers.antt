use Rattle.buffer.proofs.Fills.{passed_on, free_here}
use Rattle.buffer.proofs.fill.free_way.Goals as goal

pub returns-then-not-is_on : goal.returns-then-not-is_on
returns-then-not-is_on c = search free_here

pub loop-way-preserved : goal.loop-way-preserved
loop-way-preserved c = search passed_on
