-- The test of `drop_pcid`, for the address's page of each size.
use Rattle.drops.proofs.DropLaws.{image_dropped, image_twice}
use Rattle.drops.proofs.DropWays.{address_dropped}
use borrow.Author.Rules.{rules}
use Rattle.drops.proofs.drop_address.Goals as goal

pub drop_page-requires-2 : goal.drop_page-requires-2
drop_page-requires-2 c = (search image_dropped, search rules)

pub drop_page-requires-3 : goal.drop_page-requires-3
drop_page-requires-3 c =
    let two = c.before in
    let one = two.before in (
      image_twice _ _ _ _ _ one.requires.0 one.drop_page.ensures two.drop_page-2.ensures,
      search rules,
    )

pub returns : goal.returns
returns c = search address_dropped
