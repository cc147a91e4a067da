-- Its four ways: a bit that must be clear is not; nothing is lacking, a right is, marks alone are.
use Rattle.walk.proofs.Settling.{way_kept_off, way_done, way_refused, way_marked}
use Rattle.walk.proofs.settle.Goals as goal

pub returns-then-n-clear-ne0 : goal.returns-then-n-clear-ne0
returns-then-n-clear-ne0 c = search way_kept_off

pub returns-then-lacks-eq0 : goal.returns-then-lacks-eq0
returns-then-lacks-eq0 c = search way_done

pub returns-then-lacks-ne0 : goal.returns-then-lacks-ne0
returns-then-lacks-ne0 c = search way_refused

pub returns : goal.returns
returns c = search way_marked
