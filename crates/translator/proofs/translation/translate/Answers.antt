-- Refused, or accepted (`x`): paging is off, or what is held answers, or the walk; of the image as it was lent (`e`).
use native.Mathlib.Omega.{arith}
use borrow.Author.Rules.{rules}
use Rattle.rules.specs.Memory.{both}
use Rattle.paging.proofs.Holding.{still_usable, still_known}
use Rattle.translator.proofs.Calling.{lent_whole}
use Rattle.translator.proofs.Translating.{refuses_it, accepts, long, paging_on, paging_off, known, usable, whole, flat, by_held, by_walk}
use Rattle.translator.proofs.translation.translate.Goals as goal

pub returns-in-Err : goal.returns-in-Err
returns-in-Err c = refuses_it _ _ _ _ _ _ _ (c.in-Err.ensures _ _ c.args.ac c.of-asked.ensures) c.from.ensures

pub returns-then-not-asked : goal.returns-then-not-asked
returns-then-not-asked c =
    let x = accepts c.args.image.now (both c.args.low.now c.args.high.now) c.args.kind c.args.a c.args.ac (c.in_default.ensures _ _ c.args.ac c.of-asked.ensures) (λ j. omega (arith, c.slice_known-1.given j)) in
    flat _ _ _ _ _ x (paging_off _ _ _ _ _ x _ c.of-asked.ensures c.if-not-asked.true)

pub unwrap-image-requires : goal.unwrap-image-requires
unwrap-image-requires c =
    let x = accepts c.args.image.now (both c.args.low.now c.args.high.now) c.args.kind c.args.a c.args.ac (c.in_default.ensures _ _ c.args.ac c.of-asked.ensures) (λ j. omega (arith, c.slice_known-1.given j)) in
    c.as_mut_array.ensures.variant.1 (long _ _ _ _ _ x)

pub access_of-access-requires : goal.access_of-access-requires
access_of-access-requires c =
    known _ _ _ _ _ (accepts c.args.image.now (both c.args.low.now c.args.high.now) c.args.kind c.args.a c.args.ac (c.in_default.ensures _ _ c.args.ac c.of-asked.ensures) (λ j. omega (arith, c.slice_known-1.given j)))

pub find_held-requires : goal.find_held-requires
find_held-requires c =
    let x = accepts c.args.image.now (both c.args.low.now c.args.high.now) c.args.kind c.args.a c.args.ac (c.in_default.ensures _ _ c.args.ac c.of-asked.ensures) (λ j. omega (arith, c.slice_known-1.given j)) in
    let e = lent_whole _ _ _ c.as_mut_array.ensures.cases c.unwrap-image.ensures in
    let u = usable _ _ _ _ _ x in
    rw e u

pub walked-requires : goal.walked-requires
walked-requires c =
    let x = accepts c.args.image.now (both c.args.low.now c.args.high.now) c.args.kind c.args.a c.args.ac (c.in_default.ensures _ _ c.args.ac c.of-asked.ensures) (λ j. omega (arith, c.slice_known-1.given j)) in
    let finds = c.find_held.ensures in (
      still_usable _ _ c.access_of-access.result _ c.find_held.result finds (search rules),
      (
        whole _ _ _ _ _ x,
        still_known _ _ c.access_of-access.result _ c.find_held.result finds (search rules) (record { access = _; is = c.access_of-access.ensures }),
      ),
    )

pub returns-in-Some : goal.returns-in-Some
returns-in-Some c =
    let x = accepts c.args.image.now (both c.args.low.now c.args.high.now) c.args.kind c.args.a c.args.ac (c.in_default.ensures _ _ c.args.ac c.of-asked.ensures) (λ j. omega (arith, c.slice_known-1.given j)) in
    let e = lent_whole _ _ _ c.as_mut_array.ensures.cases c.unwrap-image.ensures in
    by_held _ _ _ _ _ x (paging_on _ _ _ _ _ x _ c.of-asked.ensures c.if-not-asked.false) _ (rw e at c.access_of-access.ensures) _ c.find_held.result
    (rw e at c.find_held.ensures) _ _ (search rules)

pub returns-in-None : goal.returns-in-None
returns-in-None c =
    let x = accepts c.args.image.now (both c.args.low.now c.args.high.now) c.args.kind c.args.a c.args.ac (c.in_default.ensures _ _ c.args.ac c.of-asked.ensures) (λ j. omega (arith, c.slice_known-1.given j)) in
    let e = lent_whole _ _ _ c.as_mut_array.ensures.cases c.unwrap-image.ensures in
    by_walk _ _ _ _ _ x (paging_on _ _ _ _ _ x _ c.of-asked.ensures c.if-not-asked.false) _ (rw e at c.access_of-access.ensures) _ c.find_held.result
    (rw e at c.find_held.ensures) (search rules) _ _ _ c.walked.ensures
