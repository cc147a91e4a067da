-- Refused, or accepted: then the bytes are an image's (`i`), lent as they are (`e`), and each type drops what the rules name.
use mathlib.Core.Path.{refl}
use native.Mathlib.Omega.{arith}
use Rattle.rules.specs.Memory.{empty}
use Rattle.rules.specs.Refusals.{invpcid}
use Rattle.translator.proofs.Calling.{refuses, call_image, lent_whole, asked_pcid_lt, invpcid_0, invpcid_1, invpcid_2, invpcid_3}
use Rattle.translator.proofs.calls.invpcid.Goals as goal

pub returns-in-Err : goal.returns-in-Err
returns-in-Err c = refuses _ _ _ _ (λ mem. refl) c.in-Err.ensures c.from.ensures

pub drop_address-requires : goal.drop_address-requires
drop_address-requires c =
    let i = call_image (invpcid c.args.kind c.args.pcid c.args.a) c.args.image.now empty tt (λ j. omega (arith, c.slice_known-1.given j)) c.in_default.ensures in
    let h = c.in_default.ensures in
    let e = lent_whole _ _ _ c.as_mut_array.ensures.cases c.unwrap-image.ensures in
    (rw e i, search (asked_pcid_lt, h))

pub drop_pcid-requires : goal.drop_pcid-requires
drop_pcid-requires c =
    let i = call_image (invpcid c.args.kind c.args.pcid c.args.a) c.args.image.now empty tt (λ j. omega (arith, c.slice_known-1.given j)) c.in_default.ensures in
    let h = c.in_default.ensures in
    let e = lent_whole _ _ _ c.as_mut_array.ensures.cases c.unwrap-image.ensures in
    (rw e i, search (asked_pcid_lt, h))

pub drop_everything-requires : goal.drop_everything-requires
drop_everything-requires c =
    let i = call_image (invpcid c.args.kind c.args.pcid c.args.a) c.args.image.now empty tt (λ j. omega (arith, c.slice_known-1.given j)) c.in_default.ensures in
    let e = lent_whole _ _ _ c.as_mut_array.ensures.cases c.unwrap-image.ensures in
    rw e i

pub drop_not_global-requires : goal.drop_not_global-requires
drop_not_global-requires c =
    let i = call_image (invpcid c.args.kind c.args.pcid c.args.a) c.args.image.now empty tt (λ j. omega (arith, c.slice_known-1.given j)) c.in_default.ensures in
    let e = lent_whole _ _ _ c.as_mut_array.ensures.cases c.unwrap-image.ensures in
    rw e i

pub returns-in-0 : goal.returns-in-0
returns-in-0 c =
    let h = c.in_default.ensures in
    let e = lent_whole _ _ _ c.as_mut_array.ensures.cases c.unwrap-image.ensures in
    search (invpcid_0, h, e)

pub returns-in-1 : goal.returns-in-1
returns-in-1 c =
    let h = c.in_default.ensures in
    let e = lent_whole _ _ _ c.as_mut_array.ensures.cases c.unwrap-image.ensures in
    search (invpcid_1, h, e)

pub returns-in-2 : goal.returns-in-2
returns-in-2 c =
    let h = c.in_default.ensures in
    let e = lent_whole _ _ _ c.as_mut_array.ensures.cases c.unwrap-image.ensures in
    search (invpcid_2, h, e)

pub returns-in_default-kind : goal.returns-in_default-kind
returns-in_default-kind c =
    let h = c.in_default.ensures in
    let e = lent_whole _ _ _ c.as_mut_array.ensures.cases c.unwrap-image.ensures in
    search (invpcid_3, h, e)
