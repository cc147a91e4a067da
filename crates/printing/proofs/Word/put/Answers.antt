-- Of the eight bytes stored, the first are the word and its tab.
use Rattle.std.proofs.Common.{arith, rules}
use Rattle.printing.proofs.Putting.{text_puts}
use Rattle.printing.proofs.Word.put.Goals as goal

pub returns : goal.returns
returns c = (search (rules, text_puts), omega arith)
