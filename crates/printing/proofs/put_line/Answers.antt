-- The number takes at most 17 of the 80 bytes, the word 8, the three numbers behind them 51; each begins where the one before it ends.
use Rattle.printing.proofs.Putting.{fields_put, word_puts}
use Rattle.printing.proofs.put_line.Goals as goal

pub returns : goal.returns
returns c = search (fields_put, word_puts)
