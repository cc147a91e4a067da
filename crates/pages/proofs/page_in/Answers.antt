-- The part has the page.
use Rattle.pages.proofs.Pages.{there}
use Rattle.pages.proofs.page_in.Goals as goal

pub returns-then-at-part : goal.returns-then-at-part
returns-then-at-part c = search there
