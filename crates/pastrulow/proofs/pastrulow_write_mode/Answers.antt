-- Turned away, or called and recorded.
use Rattle.pastrulow.proofs.Passing.{passes, at_image}
use borrow.Author.Rules.{rules}
use Rattle.pastrulow.proofs.pastrulow_write_mode.Goals as goal

pub returns : goal.returns
returns c =
    passes _ _ _ _ _ _ c.answered.ensures.turned_away
    (λ e. let w = c.answered.ensures.written e in (w.0, (at_image _ _ _ _ _ _ w.1.shows w.1.leaves (search rules), w.2)))
