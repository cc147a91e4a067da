-- Its four ways: a reserved bit of a page, the page, nothing mapped, a bit that every row has.
use Rattle.walk.proofs.Steps.{way_reserved, way_page, way_absent, way_bad}
use Rattle.walk.proofs.end.Goals as goal

pub returns-then-is_reserved_page : goal.returns-then-is_reserved_page
returns-then-is_reserved_page c = search way_reserved

pub returns-then-t-bars-eq0 : goal.returns-then-t-bars-eq0
returns-then-t-bars-eq0 c = search way_page

pub returns-then-t-eq1 : goal.returns-then-t-eq1
returns-then-t-eq1 c = search way_absent

pub returns : goal.returns
returns c = search way_bad
