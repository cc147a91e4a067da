-- A slot that is asked for is emptied; one that is not wanted, or is another's, stays.
use Rattle.drops.proofs.DropWays.{slot_dropped, slot_of_another, slot_unwanted}
use Rattle.drops.proofs.drop_slot.Goals as goal

pub returns-then-tag-fits : goal.returns-then-tag-fits
returns-then-tag-fits c = search slot_dropped

pub returns-else-tag-fits : goal.returns-else-tag-fits
returns-else-tag-fits c = search slot_of_another

pub returns-else-fits : goal.returns-else-fits
returns-else-fits c = search slot_unwanted
