-- One's own and allowed, or barred.
use Rattle.direct.proofs.Serving.{barred, allowed}
use Rattle.direct.proofs.serve.Goals as goal

pub returns-then-serves : goal.returns-then-serves
returns-then-serves c = search allowed

pub returns-else-serves : goal.returns-else-serves
returns-else-serves c = search barred
