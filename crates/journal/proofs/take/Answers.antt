-- Counted, the bytes are a journal's again; then a way for each place of the fault: a held record, the next one, none.
use Rattle.journal.proofs.Reporting.{is_held_lem, held_room, place_room, journal_counted, held_counted, came_again, came_new, came_late}
use borrow.Author.Rules.{rules}
use Rattle.journal.proofs.take.Goals as goal

pub find-found-requires : goal.find-found-requires
find-found-requires c = (search rules, (search is_held_lem, search held_room))

pub again-requires : goal.again-requires
again-requires c = (search journal_counted, search place_room)

pub returns-in-Some : goal.returns-in-Some
returns-in-Some c = search came_again

pub keep-requires : goal.keep-requires
keep-requires c = (search journal_counted, (search held_counted, search rules))

pub returns-in-None : goal.returns-in-None
returns-in-None c = search came_new

pub miss-requires : goal.miss-requires
miss-requires c = search journal_counted

pub returns-in-None-2 : goal.returns-in-None-2
returns-in-None-2 c = search came_late
