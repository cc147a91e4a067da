-- A compare under the mask is the two tests.
use Rattle.buffer.proofs.Looking.{page_test}
use Rattle.buffer.proofs.look.holds_page.Goals as goal

pub returns : goal.returns
returns c = search page_test
