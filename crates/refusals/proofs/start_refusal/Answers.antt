-- The second, where the first does not apply. It is judged from flags 0 and CR3 0.
use mathlib.Core.Path.{refl}
use Rattle.rules.specs.Image.{started}
use Rattle.refusals.proofs.Checks.{at_second}
use Rattle.refusals.proofs.start_refusal.Goals as goal

pub returns : goal.returns
returns c =
    at_second _ _ _ _ _ (rw c.is_outside.ensures at c.in_ok-refuse_if.ensures) c.refuse_if-2.ensures (c.no_mode.ensures (started c.args.width 0) refl refl)
