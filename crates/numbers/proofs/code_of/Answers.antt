-- What is told of the access for each of six kinds; one way for each cause.
use Rattle.numbers.proofs.Laws.{not_present, reserved, protection}
use Rattle.numbers.proofs.code_of.Goals as goal

pub returns-in-NotPresent : goal.returns-in-NotPresent
returns-in-NotPresent c = search not_present

pub returns-in-Reserved : goal.returns-in-Reserved
returns-in-Reserved c = search reserved

pub returns-in-Protection : goal.returns-in-Protection
returns-in-Protection c = search protection
