-- A base below 2^52 and an offset within the page do not overflow.
use Rattle.numbers.proofs.Laws.{base_fits, sum_fits}
use Rattle.numbers.proofs.hit_address.Goals as goal

pub overflow_mul-result : goal.overflow_mul-result
overflow_mul-result c = search base_fits

pub overflow_add-result : goal.overflow_add-result
overflow_add-result c = search sum_fits
