-- What `down` answers from the top level on, judged and marked where it is a page, is the whole walk (`Whole`).
use Rattle.walk.proofs.Whole.{stuck_fits, stuck_walked, page_fits, page_walked}
use Rattle.walk.proofs.walk.Goals as goal

pub unpack-requires : goal.unpack-requires
unpack-requires c = search stuck_fits

pub returns-then-n-lt2048 : goal.returns-then-n-lt2048
returns-then-n-lt2048 c = search stuck_walked

pub unpack-requires-2 : goal.unpack-requires-2
unpack-requires-2 c = search page_fits

pub returns : goal.returns
returns c = search page_walked
