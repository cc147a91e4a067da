-- Cases of starts, plain and with flags, as one list under one claim. The guest is that of `OwnCases`: at 0x6000 it has a page that is not writable.
use Prim.Native.Nat.{◌^◌}
use mathlib.Core.Path.{refl}
use mathlib.Core.List.{List, [], ◌∷◌}
use lib.ListN.{replicate}
use Rattle.rules.specs.Image.{encode, decode, started}
use Rattle.rules.specs.Memory.{empty}
use Rattle.rules.specs.Refusals.{start_with, start, translate, write_cr3, write_mode}
use Rattle.rules.specs.Calls.{with_cr3}
use Rattle.rules.specs.declared.Cause.TheVariants.{NotPresent, Protection}
use Rattle.rules.specs.declared.Answer.TheVariants.{Address, PageFault, Refused, Done}
use Rattle.rules.proofs.Cases.{◌gives◌, then, Case, blank, flags, victims, keeps, AllRight}
use Rattle.rules.proofs.OwnCases.{own, on}

abbrev starts : List Case
starts =
    -- over an image in use: write protect is on, and binds a supervisor's write as soon as paging is on, unless that mode write turns it off
    own (translate 0 0x1000 0 gives Address 0x5000 0x1000 4 ∷ start 40 gives Done ∷ [])
    (then [] (flags 2 ∷ victims 0 ∷ keeps [] ∷ [])
    ∷ then (write_cr3 0x1000 gives Done ∷ write_mode 3 gives Done ∷ translate 1 0x6000 0 gives PageFault Protection 1 3 4 ∷ []) (flags 3 ∷ [])
    ∷ then (write_cr3 0x1000 gives Done ∷ write_mode 1 gives Done ∷ translate 1 0x6000 0 gives Address 0x5000 0x1000 4 ∷ []) (flags 1 ∷ [])
    ∷ [])
    -- with flags: they are in force at once, over root 0, which leads nowhere
    ∷ own []
    (then (start_with 40 0 gives Done ∷ translate 1 0x6000 0 gives Address 0x6000 0 0 ∷ []) (flags 0 ∷ [])
    ∷ then
    (start_with 40 3 gives Done
    ∷ translate 1 0x6000 0 gives PageFault NotPresent 4 2 1
    ∷ write_cr3 0x1000 gives Done
    ∷ translate 1 0x6000 0 gives PageFault Protection 1 3 4
    ∷ []) (flags 3 ∷ [])
    ∷ then (start_with 40 1 gives Done ∷ write_cr3 0x1000 gives Done ∷ translate 1 0x6000 0 gives Address 0x5000 0x1000 4 ∷ []) (flags 1 ∷ [])
    ∷ [])
    -- one that is refused leaves the image as it was
    ∷ own
    (translate 0 0x1000 0 gives Address 0x5000 0x1000 4
    ∷ start_with 40 8 gives Refused 7
    ∷ start_with 53 0 gives Refused 2
    ∷ translate 0 0x1000 0 gives Address 0x5000 0x1000 0
    ∷ []) (then [] (flags 23 ∷ keeps (4 ∷ []) ∷ []) ∷ [])
    -- length and width go before the flags
    ∷ on (replicate 2047 0) empty (start_with 40 128 gives Refused 2 ∷ [])
    ∷ on blank empty (start_with 35 8 gives Refused 2 ∷ start_with 53 128 gives Refused 2 ∷ [])
    -- the flags are judged from flags 0 and CR3 0, whatever the image held: here a CR3 that names a PCID
    ∷ on blank empty
    (start_with 40 128 gives Refused 7 ∷ start_with 40 (2 ^ 63) gives Refused 7 ∷ start_with 40 126 gives Refused 7 ∷ start_with 40 9 gives Done ∷ write_cr3 0x800 gives Done
    ∷ start_with 36 127 gives Done ∷ [])
    ∷ on (encode (with_cr3 0x800 (started 40 0))) empty (write_mode 9 gives Refused 7 ∷ start_with 40 9 gives Done ∷ [])
    ∷ []

pub all_starts : AllRight starts
unfolding encode decode
all_starts = refl
