-- Cases of user pages under SMEP and SMAP, as one list under one claim. The guest is that of `OwnCases`.
use Prim.Native.Nat.{ℕ, ◌-◌, ◌^◌}
use mathlib.Core.Path.{refl}
use mathlib.Core.List.{List, [], ◌∷◌}
use Rattle.rules.specs.Image.{encode, decode}
use Rattle.rules.specs.Refusals.{translate, write_mode}
use Rattle.rules.specs.declared.Cause.TheVariants.{NotPresent, Reserved, Protection}
use Rattle.rules.specs.declared.Answer.TheVariants.{Address, PageFault, Done}
use Rattle.rules.proofs.Cases.{◌gives◌, Ending, then, Case, keeps, AllRight}
use Rattle.rules.proofs.OwnCases.{own}

-- both on, with AC 0 and with AC 1: each kind at a user page, not held or held with the dirty mark; who is answered has read so many entries
abbrev kinds : ℕ → List Ending
kinds n =
    then (translate 0 0x1000 0 gives PageFault Protection 1 1 4 ∷ []) []
    ∷ then (translate 1 0x1000 0 gives PageFault Protection 1 3 4 ∷ []) []
    ∷ then (translate 2 0x1000 0 gives PageFault Protection 1 0x11 4 ∷ []) []
    ∷ then (translate 3 0x1000 0 gives Address 0x5000 0x1000 n ∷ []) []
    ∷ then (translate 4 0x1000 0 gives Address 0x5000 0x1000 n ∷ []) []
    ∷ then (translate 5 0x1000 0 gives Address 0x5000 0x1000 n ∷ []) []
    ∷ then (translate 0 0x1000 1 gives Address 0x5000 0x1000 n ∷ []) []
    ∷ then (translate 1 0x1000 1 gives Address 0x5000 0x1000 n ∷ []) []
    ∷ then (translate 2 0x1000 1 gives PageFault Protection 1 0x11 4 ∷ []) []
    ∷ then (translate 3 0x1000 1 gives Address 0x5000 0x1000 n ∷ []) []
    ∷ then (translate 4 0x1000 1 gives Address 0x5000 0x1000 n ∷ []) []
    ∷ then (translate 5 0x1000 1 gives Address 0x5000 0x1000 n ∷ []) []
    ∷ []

abbrev user_pages : List Case
user_pages =
    own (write_mode 119 gives Done ∷ []) (kinds 4)
    ∷ own (translate 4 0x1000 0 gives Address 0x5000 0x1000 4 ∷ write_mode 119 gives Done ∷ []) (kinds 0)
    ∷ own []
    (
    -- SMEP is of fetches alone, SMAP of all else; either is judged as it is now
    then
    (write_mode 55 gives Done
    ∷ translate 1 0x1000 0 gives Address 0x5000 0x1000 4
    ∷ translate 0 0x1000 0 gives Address 0x5000 0x1000 0
    ∷ translate 2 0x1000 0 gives PageFault Protection 1 0x11 4
    ∷ write_mode 87 gives Done
    ∷ translate 2 0x1000 0 gives Address 0x5000 0x1000 4
    ∷ translate 0 0x1000 0 gives PageFault Protection 1 1 4
    ∷ write_mode 23 gives Done
    ∷ translate 0 0x1000 0 gives Address 0x5000 0x1000 4
    ∷ []) []
    -- AC is any number but 0; write protect off does not lift SMAP
    ∷ then
    (write_mode 117 gives Done
    ∷ translate 1 0x6000 0 gives PageFault Protection 1 3 4
    ∷ translate 1 0x6000 2 gives Address 0x5000 0x1000 4
    ∷ translate 1 0x6000 (2 ^ 64 - 2) gives Address 0x5000 0x1000 0
    ∷ translate 0 0x6000 (2 ^ 63) gives Address 0x5000 0x1000 0
    ∷ []) []
    -- a page is user by all entries read: this one has an entry that is, below one that is not
    ∷ then
    (write_mode 119 gives Done
    ∷ translate 0 0x1401000 0 gives Address 0x5000 0x1000 4
    ∷ translate 2 0x1401000 0 gives Address 0x5000 0x1000 0
    ∷ translate 3 0x1401000 0 gives PageFault Protection 1 5 4
    ∷ []) []
    -- large pages as well
    ∷ then
    (translate 0 0x600000 0 gives Address 0xA00000 0x200000 3
    ∷ translate 0 0x100000000 0 gives Address 0x80000000 0x40000000 2
    ∷ write_mode 119 gives Done
    ∷ translate 0 0x600000 0 gives PageFault Protection 2 1 3
    ∷ translate 2 0x100000000 1 gives PageFault Protection 3 0x11 2
    ∷ []) (keeps [] ∷ [])
    -- a code tells a fetch with SMEP on though NXE is off, whatever the cause; SMAP lets it tell none
    ∷ then
    (write_mode 39 gives Done
    ∷ translate 2 0x28000000000 0 gives PageFault NotPresent 3 0x10 2
    ∷ translate 5 0x200000000 0 gives PageFault Reserved 3 0x1D 2
    ∷ translate 5 0x5000 0 gives PageFault Protection 1 0x15 4
    ∷ translate 2 0x1000 0 gives PageFault Protection 1 0x11 4
    ∷ translate 0 0x28000000000 0 gives PageFault NotPresent 3 0 2
    ∷ write_mode 71 gives Done
    ∷ translate 2 0x28000000000 0 gives PageFault NotPresent 3 0 2
    ∷ []) []
    ∷ [])
    ∷ []

pub all_user : AllRight user_pages
unfolding encode decode
all_user = refl
