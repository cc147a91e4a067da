-- The trial cases that document 01 marks P, in its order, as one list under one claim, what memory then holds included; the fetch with NXE off as
-- request W-201 has it.
use mathlib.Core.Path.{refl}
use mathlib.Core.List.{List, [], ◌∷◌, ◌++◌}
use Rattle.rules.specs.Memory.{both}
use Rattle.rules.specs.Image.{encode, decode}
use Rattle.rules.specs.Refusals.{translate, write_cr3, write_mode}
use Rattle.rules.specs.TrialGuest.{guest}
use Rattle.rules.specs.declared.Cause.TheVariants.{NotPresent, Reserved, Protection}
use Rattle.rules.specs.declared.Answer.TheVariants.{Address, PageFault, Refused, Done}
use Rattle.rules.proofs.Cases.{Call, ◌gives◌, Ending, then, Case, blank, ready, Look, ◌holds◌, AllRight}

-- afresh; then some calls, and then each of several endings
abbrev after : List Call → List Ending → Case
after cs es = record { image = blank; memory = both guest []; calls = ready ++ cs; endings = es }

abbrev trial : List Call → List Look → Case
trial cs ls = after cs (then [] ls ∷ [])

abbrev pub cases : List Case
cases =
    trial (translate 0 0x123 0 gives Address 0x5123 0x1000 4 ∷ []) (0x4000 holds 0x5023 ∷ 0x1000 holds 0x2027 ∷ [])
    ∷ after (translate 0 0x123 0 gives Address 0x5123 0x1000 4 ∷ translate 1 0x123 0 gives Address 0x5123 0x1000 4 ∷ [])
    (then [] (0x4000 holds 0x5063 ∷ []) ∷ then (translate 1 0x123 0 gives Address 0x5123 0x1000 0 ∷ []) [] ∷ [])
    ∷ trial (translate 3 0x123 0 gives PageFault Protection 1 5 4 ∷ []) []
    ∷ trial (translate 4 0x1000 0 gives PageFault Protection 1 7 4 ∷ []) []
    ∷ trial (translate 5 0x2000 0 gives PageFault Protection 1 0x15 4 ∷ []) []
    ∷ after []
    (then (translate 3 0x3000 0 gives PageFault NotPresent 1 4 4 ∷ []) []
    ∷ then (translate 5 0x3000 0 gives PageFault NotPresent 1 0x14 4 ∷ []) []
    ∷ then (write_mode 7 gives Done ∷ translate 5 0x3000 0 gives PageFault NotPresent 1 4 4 ∷ []) [] ∷ [])
    ∷ trial (translate 0 0x4000 0 gives PageFault Reserved 1 9 4 ∷ []) []
    ∷ trial (translate 0 0x212345 0 gives Address 0x612345 0x200000 3 ∷ []) []
    ∷ trial (translate 1 0x40000010 0 gives Address 0x40000010 0x40000000 2 ∷ []) (0x2008 holds 0x400000E3 ∷ [])
    ∷ trial (translate 0 0x0000800000000000 0 gives Refused 5 ∷ []) []
    ∷ trial
    (translate 0 0x5000 0 gives Address 0x5000 0x1000 4 ∷ write_cr3 0x1000 gives Done
    ∷ translate 0 0x5000 0 gives Address 0x5000 0x1000 0 ∷ []) []
    ∷ []

pub all_P : AllRight cases
unfolding encode decode
all_P = refl
