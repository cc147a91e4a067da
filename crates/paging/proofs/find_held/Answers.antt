-- The first match answers, or goes; or there is none.
use borrow.Author.Rules.{rules}
use Rattle.paging.proofs.Holding.{match_serves, match_goes, match_none}
use Rattle.paging.proofs.find_held.Goals as goal

pub returns-then-serves : goal.returns-then-serves
returns-then-serves c = search match_serves

pub returns-else-serves : goal.returns-else-serves
returns-else-serves c =
    match_goes _ c.in-Some.field-0.at c.in-Some.field-0.size _ _ _ _ c.look_all.result _ c.look_all.ensures (search rules)
    c.read_word-d.ensures c.read_word.ensures c.serves.ensures c.if-serves.false c.requires _ _ c.pcid_of-pcid.ensures c.drop_matches.ensures

pub returns-in-None : goal.returns-in-None
returns-in-None c = search match_none
