use Rattle.printing.proofs.Backward.{written_more, written_all}
use Rattle.printing.proofs.put_digits.Goals as goal

pub loop-i-preserved : goal.loop-i-preserved
loop-i-preserved c = search written_more

pub returns : goal.returns
returns c = search written_all
