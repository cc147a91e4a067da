-- Refused, or accepted: then the bytes are an image's (`i`), lent as they are (`e`), also with the new flags (`w`), and everything is dropped, or nothing.
use mathlib.Core.Path.{refl}
use native.Mathlib.Omega.{arith}
use Rattle.rules.specs.Memory.{empty}
use Rattle.rules.specs.Refusals.{write_mode}
use Rattle.translator.proofs.Calling.{refuses, call_image, lent_whole, mode_image, mode_keeps, mode_drops}
use Rattle.translator.proofs.calls.write_mode.Goals as goal

pub returns-in-Err : goal.returns-in-Err
returns-in-Err c = refuses _ _ _ _ (λ mem. refl) c.in-Err.ensures c.from.ensures

pub returns-then-same_mode : goal.returns-then-same_mode
returns-then-same_mode c =
    let h = c.in_default.ensures in
    let i = call_image (write_mode c.args.value) c.args.image.now empty tt (λ j. omega (arith, c.slice_known-1.given j)) c.in_default.ensures in
    let e = lent_whole _ _ _ c.as_mut_array.ensures.cases c.unwrap-image.ensures in
    let w = rw e at c.write_word.ensures in
    let f = rw e at c.read_word-flags.ensures in
    search (mode_keeps, h, i, w, f)

pub drop_everything-requires : goal.drop_everything-requires
drop_everything-requires c =
    let h = c.in_default.ensures in
    let i = call_image (write_mode c.args.value) c.args.image.now empty tt (λ j. omega (arith, c.slice_known-1.given j)) c.in_default.ensures in
    let e = lent_whole _ _ _ c.as_mut_array.ensures.cases c.unwrap-image.ensures in
    let w = rw e at c.write_word.ensures in
    let f = rw e at c.read_word-flags.ensures in
    search (mode_image, h, i, w, f)

pub returns : goal.returns
returns c =
    let h = c.in_default.ensures in
    let i = call_image (write_mode c.args.value) c.args.image.now empty tt (λ j. omega (arith, c.slice_known-1.given j)) c.in_default.ensures in
    let e = lent_whole _ _ _ c.as_mut_array.ensures.cases c.unwrap-image.ensures in
    let w = rw e at c.write_word.ensures in
    let f = rw e at c.read_word-flags.ensures in
    search (mode_drops, h, i, w, f)
