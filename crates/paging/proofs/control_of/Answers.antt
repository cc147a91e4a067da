-- The width has been checked, so the root is cut out of CR3 as the rules cut it.
use Rattle.paging.proofs.Walking.{over_root, in_word, control_is}
use Rattle.paging.proofs.control_of.Goals as goal

pub part-requires : goal.part-requires
part-requires c = (search over_root, search in_word)

pub returns : goal.returns
returns c = search control_is
