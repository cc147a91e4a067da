-- Refused, or accepted: then the bytes are an image's (`i`), lent as they are (`e`), also with the new CR3 (`w`), and the drop is the one that the rules name, or none.
use mathlib.Core.Path.{refl}
use native.Mathlib.Omega.{arith}
use borrow.Author.Rules.{rules}
use Rattle.rules.specs.Memory.{empty}
use Rattle.rules.specs.Refusals.{write_cr3}
use Rattle.translator.proofs.Calling.{refuses, call_image, lent_whole, cr3_image, cr3_keeps, cr3_drops}
use Rattle.translator.proofs.calls.write_cr3.Goals as goal

pub returns-in-Err : goal.returns-in-Err
returns-in-Err c = refuses _ _ _ _ (λ mem. refl) c.in-Err.ensures c.from.ensures

pub returns-then-is_on : goal.returns-then-is_on
returns-then-is_on c =
    let h = c.in_default.ensures in
    let i = call_image (write_cr3 c.args.value) c.args.image.now empty tt (λ j. omega (arith, c.slice_known-1.given j)) c.in_default.ensures in
    let e = lent_whole _ _ _ c.as_mut_array.ensures.cases c.unwrap-image.ensures in
    let w = rw e at c.write_word.ensures in
    search (cr3_keeps, h, i, w)

pub drop_pcid-requires : goal.drop_pcid-requires
drop_pcid-requires c =
    let h = c.in_default.ensures in
    let i = call_image (write_cr3 c.args.value) c.args.image.now empty tt (λ j. omega (arith, c.slice_known-1.given j)) c.in_default.ensures in
    let e = lent_whole _ _ _ c.as_mut_array.ensures.cases c.unwrap-image.ensures in
    let w = rw e at c.write_word.ensures in
    (search (cr3_image, h, i, w), search rules)

pub returns : goal.returns
returns c =
    let h = c.in_default.ensures in
    let i = call_image (write_cr3 c.args.value) c.args.image.now empty tt (λ j. omega (arith, c.slice_known-1.given j)) c.in_default.ensures in
    let e = lent_whole _ _ _ c.as_mut_array.ensures.cases c.unwrap-image.ensures in
    let w = rw e at c.write_word.ensures in
    search (cr3_drops, h, i, w)
