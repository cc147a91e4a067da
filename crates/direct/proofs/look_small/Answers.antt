-- Nothing is held.
use mathlib.Core.Path.{refl}
use Rattle.std.specs.Prelude.{None}
use Rattle.buffer.proofs.Looking.{begins_absent}
use Rattle.direct.proofs.Serving.{nothing_first}
use Rattle.direct.proofs.look_small.Goals as goal

pub returns-in-Nowhere : goal.returns-in-Nowhere
returns-in-Nowhere c = nothing_first _ _ _ _ _ _ _ None (begins_absent _ _ _ c.first.ensures c.in-Nowhere.is) refl c.missed.ensures
