-- Held, and global or the PCID's, for the address's page of each size.
use Rattle.drops.proofs.DropLaws.{image_dropped, image_twice}
use Rattle.drops.proofs.DropWays.{matches_dropped}
use borrow.Author.Rules.{rules}
use Rattle.drops.proofs.drop_matches.Goals as goal

pub drop_held-requires : goal.drop_held-requires
drop_held-requires c = (search image_dropped, search rules)

pub drop_held-requires-2 : goal.drop_held-requires-2
drop_held-requires-2 c = (image_twice _ _ _ _ _ c.requires.0 c.drop_match.ensures c.drop_held.ensures, search rules)

pub returns : goal.returns
returns c =
    matches_dropped _ _ _ _ _ _ _ _ _ c.requires.0 c.size.ensures.0 c.size-2.ensures.0 c.size-3.ensures.0 c.drop_match.ensures c.drop_held.ensures
    c.drop_held-2.ensures
