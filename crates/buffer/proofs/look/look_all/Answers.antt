use Rattle.buffer.proofs.Looking.{way_size, look_found, look_next}
use Rattle.buffer.proofs.look.look_all.Goals as goal

pub page_number-number-requires : goal.page_number-number-requires
page_number-number-requires c = search way_size

pub set_of-requires : goal.set_of-requires
set_of-requires c = search way_size

pub returns-then-holds_page-is_of : goal.returns-then-holds_page-is_of
returns-then-holds_page-is_of c = search look_found

pub loop-k-preserved : goal.loop-k-preserved
loop-k-preserved c = search look_next
