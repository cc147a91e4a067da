-- The first, or the second of a fit image.
use Rattle.refusals.proofs.Checks.{at_first, at_second, fit_narrow}
use Rattle.refusals.proofs.cr3_refusal.Goals as goal

pub returns-in_err-image : goal.returns-in_err-image
returns-in_err-image c = at_first _ _ _ _ c.from_residual.ensures.1 c.in_err-image.ensures.refused

pub no_cr3-requires : goal.no_cr3-requires
no_cr3-requires c =
    let same = c.in_ok-image.ensures.same in
    let narrow = fit_narrow _ c.in_ok-image.ensures.refused in
    rw same narrow

pub returns : goal.returns
returns c =
    let same = c.in_ok-image.ensures.same in
    at_second _ _ _ _ _ c.in_ok-image.ensures.refused c.refuse_if.ensures (rw same at c.no_cr3.ensures)
