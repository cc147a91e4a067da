-- The level falls at each call.
use Rattle.walk.proofs.+down.Given as goal

abbrev pub decreases-down : goal.decreases-down
decreases-down l = l.level
