-- The five ways through it.
use Rattle.buffer.proofs.Looking.{way_0, way_1, way_2, way_3, no_way}
use Rattle.buffer.proofs.look.held.Goals as goal

pub returns-then-holds_page : goal.returns-then-holds_page
returns-then-holds_page g c = search way_0

pub returns-then-holds_page-2 : goal.returns-then-holds_page-2
returns-then-holds_page-2 g c = search way_1

pub returns-then-holds_page-3 : goal.returns-then-holds_page-3
returns-then-holds_page-3 g c = search way_2

pub returns-then-holds_page-4 : goal.returns-then-holds_page-4
returns-then-holds_page-4 g c = search way_3

pub returns : goal.returns
returns g c = search no_way
