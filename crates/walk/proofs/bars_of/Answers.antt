-- A table's row, and bits 7 and 0.
use Rattle.walk.proofs.Ways.{bars_lt}
use Rattle.walk.proofs.bars_of.Goals as goal

pub overflow_add-result : goal.overflow_add-result
overflow_add-result c = search bars_lt
