-- What the walk found is in range, and is finished.
use Rattle.paging.proofs.Walking.{walk_ready, known_there, found_fits, its_flags, walks_it}
use borrow.Author.Rules.{rules}
use Rattle.paging.proofs.walked.Goals as goal

pub walk-f-requires : goal.walk-f-requires
walk-f-requires c = (search walk_ready, search known_there)

pub finish-requires : goal.finish-requires
finish-requires c = (search rules, (search its_flags, search found_fits))

pub returns : goal.returns
returns c = search walks_it
