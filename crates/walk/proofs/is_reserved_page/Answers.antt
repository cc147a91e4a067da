-- The mask leaves something exactly if a bit of the row is set.
use Rattle.walk.proofs.Ways.{reserved_page_test}
use Rattle.walk.proofs.is_reserved_page.Goals as goal

pub returns : goal.returns
returns c = search reserved_page_test
