-- The two ways through it: PCIDE on, and off.
use Rattle.numbers.proofs.Laws.{pcid_on, pcid_off}
use Rattle.numbers.proofs.pcid_of.Goals as goal

pub returns-then-is_on : goal.returns-then-is_on
returns-then-is_on c = search pcid_on

pub returns : goal.returns
returns c = search pcid_off
