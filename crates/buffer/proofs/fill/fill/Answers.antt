-- With word 3 written the bytes are again an image's, over which the victim's slot is stored.
use Rattle.buffer.proofs.Fills.{image_moved, over_victim}
use borrow.Author.Rules.{rules}
use Rattle.buffer.proofs.fill.fill.Goals as goal

pub store_way-requires-2 : goal.store_way-requires-2
store_way-requires-2 c = (search image_moved, search rules)

pub returns : goal.returns
returns c = search over_victim
