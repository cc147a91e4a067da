-- Refused; or accepted (`x`), with paging off or on: then of the image as it was lent (`e`).
use native.Mathlib.Omega.{arith}
use Rattle.rules.specs.Memory.{both}
use Rattle.translator.proofs.Calling.{lent_whole}
use Rattle.translator.proofs.Translating.{Accepts, accepts, long, paging_on, paging_off, known}
use Rattle.direct.proofs.Recording.{writes_refusal, lent, writes_flat, writes_looked}
use Rattle.direct.proofs.translate_asked.Goals as goal

pub returns-in-Err : goal.returns-in-Err
returns-in-Err c =
    writes_refusal _ _ _ _ _ _ _ _ _ (c.in-Err.ensures _ _ c.args.ac c.requires.1) c.from.ensures c.from-in-Err.ensures c.write.ensures

pub returns-then-not-asked : goal.returns-then-not-asked
returns-then-not-asked c =
    let x : Accepts c.args.image.now (both c.args.low.now c.args.high.now) c.args.kind c.args.a c.args.ac =
    accepts _ _ _ _ _ (c.in_default.ensures _ _ c.args.ac c.requires.1) (λ j. omega (arith, c.slice_known-1.given j)) in
    writes_flat _ _ _ _ _ x (paging_off _ _ _ _ _ x _ c.requires.1 c.if-not-asked.true) _ c.put_address.ensures

pub unwrap-image-requires : goal.unwrap-image-requires
unwrap-image-requires c =
    let x : Accepts c.args.image.now (both c.args.low.now c.args.high.now) c.args.kind c.args.a c.args.ac =
    accepts _ _ _ _ _ (c.in_default.ensures _ _ c.args.ac c.requires.1) (λ j. omega (arith, c.slice_known-1.given j)) in
    c.as_mut_array.ensures.variant.1 (long _ _ _ _ _ x)

pub access_of-access-requires : goal.access_of-access-requires
access_of-access-requires c =
    let x : Accepts c.args.image.now (both c.args.low.now c.args.high.now) c.args.kind c.args.a c.args.ac =
    accepts _ _ _ _ _ (c.in_default.ensures _ _ c.args.ac c.requires.1) (λ j. omega (arith, c.slice_known-1.given j)) in
    known _ _ _ _ _ x

pub look_small-requires : goal.look_small-requires
look_small-requires c =
    let x : Accepts c.args.image.now (both c.args.low.now c.args.high.now) c.args.kind c.args.a c.args.ac =
    accepts _ _ _ _ _ (c.in_default.ensures _ _ c.args.ac c.requires.1) (λ j. omega (arith, c.slice_known-1.given j)) in
    let e = lent_whole _ _ _ c.as_mut_array.ensures.cases c.unwrap-image.ensures in
    rw e (lent _ _ _ _ _ x _ (rw e at c.access_of-access.ensures) _ c.requires.0)

pub returns : goal.returns
returns c =
    let x : Accepts c.args.image.now (both c.args.low.now c.args.high.now) c.args.kind c.args.a c.args.ac =
    accepts _ _ _ _ _ (c.in_default.ensures _ _ c.args.ac c.requires.1) (λ j. omega (arith, c.slice_known-1.given j)) in
    let e = lent_whole _ _ _ c.as_mut_array.ensures.cases c.unwrap-image.ensures in
    writes_looked _ _ _ _ _ x _ (rw e at c.access_of-access.ensures) (paging_on _ _ _ _ _ x _ c.requires.1 c.if-not-asked.false) _ _ _
    (rw e at c.look_small.ensures)
