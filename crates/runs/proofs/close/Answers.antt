-- The last line, which is given its end, and the totals.
use borrow.Author.Rules.{rules}
use Rattle.runs.proofs.Finishing.{finish_room, finish_line}
use Rattle.runs.proofs.close.Goals as goal

pub put_totals-requires-2 : goal.put_totals-requires-2
put_totals-requires-2 c = search finish_room

pub returns : goal.returns
returns c =
    finish_line _ _ _ _ _ _ _ _ _ _ (search rules) c.requires c.if-run-eq0.false (search rules) c.turns-fed.auto.out c.turns-fed.ensures _ _ c.put_totals-2.ensures
