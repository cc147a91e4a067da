-- The slot is the rules' slot for the page.
use Rattle.paging.proofs.Walking.{kept_page}
use Rattle.paging.proofs.keep.Goals as goal

pub returns : goal.returns
returns c = search kept_page
