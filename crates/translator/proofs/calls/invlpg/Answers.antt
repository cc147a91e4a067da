-- Refused, or accepted: then the bytes are an image's (`i`), lent as they are (`e`), and the drop is the one that the rules name, or none.
use mathlib.Core.Path.{refl}
use native.Mathlib.Omega.{arith}
use borrow.Author.Rules.{rules}
use Rattle.rules.specs.Memory.{empty}
use Rattle.rules.specs.Refusals.{invlpg}
use Rattle.translator.proofs.Calling.{refuses, call_image, lent_whole, invlpg_drops, invlpg_nothing}
use Rattle.translator.proofs.calls.invlpg.Goals as goal

pub returns-in-Err : goal.returns-in-Err
returns-in-Err c = refuses _ _ _ _ (λ mem. refl) c.in-Err.ensures c.from.ensures

pub drop_matches-requires : goal.drop_matches-requires
drop_matches-requires c =
    let i = call_image (invlpg c.args.a) c.args.image.now empty tt (λ j. omega (arith, c.slice_known-1.given j)) c.in_default.ensures in
    let e = lent_whole _ _ _ c.as_mut_array.ensures.cases c.unwrap-image.ensures in
    (rw e i, search rules)

pub returns-then-is_canonical : goal.returns-then-is_canonical
returns-then-is_canonical c =
    let h = c.in_default.ensures in
    let e = lent_whole _ _ _ c.as_mut_array.ensures.cases c.unwrap-image.ensures in
    let p = rw e at c.pcid_of-pcid.ensures.current in
    let d = rw e at c.drop_matches.ensures in
    search (invlpg_drops, h, p, d)

pub returns-else-is_canonical : goal.returns-else-is_canonical
returns-else-is_canonical c =
    let h = c.in_default.ensures in
    let i = call_image (invlpg c.args.a) c.args.image.now empty tt (λ j. omega (arith, c.slice_known-1.given j)) c.in_default.ensures in
    let e = lent_whole _ _ _ c.as_mut_array.ensures.cases c.unwrap-image.ensures in
    rw e (invlpg_nothing _ _ _ h c.is_canonical.ensures c.if-is_canonical.false i)
