-- The first, or the second of a fit image.
use Rattle.refusals.proofs.Checks.{at_first, at_second, judged}
use Rattle.refusals.proofs.mode_refusal.Goals as goal

pub returns-in_err-image : goal.returns-in_err-image
returns-in_err-image c = at_first _ _ _ _ c.from_residual.ensures.1 c.in_err-image.ensures.refused

pub returns : goal.returns
returns c =
    let same = c.in_ok-image.ensures.same in
    at_second _ _ _ _ _ c.in_ok-image.ensures.refused c.refuse_if.ensures
    (judged c.args.image.now _ _ c.args.value _ (rw same at c.read_word-flags.ensures) (rw same at c.read_word-cr3.ensures) c.no_mode.ensures)
