-- A remainder and shifts cut out a part.
use Rattle.words.proofs.Laws.{part_shifts}
use Rattle.words.proofs.part.Goals as goal

pub returns : goal.returns
returns c = search part_shifts
