-- The fields, each from where the one before it ends.
use Rattle.printing.proofs.Putting.{fields_put, word_puts}
use Rattle.printing.proofs.put_totals.Goals as goal

pub returns : goal.returns
returns c = search (fields_put, word_puts)
