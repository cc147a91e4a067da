-- What `down` answers is what the rules' walk reaches from its level on.
use Rattle.walk.proofs.Steps.{way_end, way_on}
use Rattle.walk.proofs.+down.Goals as goal

pub returns-then-level-eq1 : goal.returns-then-level-eq1
returns-then-level-eq1 t c = search way_end

pub returns-then-t-bars-eq0 : goal.returns-then-t-bars-eq0
returns-then-t-bars-eq0 t c = search way_on

pub returns : goal.returns
returns t c = search way_end
