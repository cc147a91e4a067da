-- The slot answers, or all ways are gone through.
use Rattle.direct.proofs.Serving.{first_serves}
use Rattle.direct.proofs.answer_held.Goals as goal

pub returns-then-serve : goal.returns-then-serve
returns-then-serve c = search first_serves
