-- With bit 63 or without it.
use Rattle.formats.proofs.Laws.{common_on, common_lt, common_off}
use Rattle.formats.proofs.common.Goals as goal

pub returns-then-nxe : goal.returns-then-nxe
returns-then-nxe c = search common_on

pub overflow_add-result : goal.overflow_add-result
overflow_add-result c = search common_lt

pub returns : goal.returns
returns c = search common_off
