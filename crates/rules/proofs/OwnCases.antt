-- Cases of our own, for what the trial cases do not reach, as one list under one claim. The guest is 8 KiB in which one page serves as the
-- table of every level, so that an address's indexes say which of its words the walk reads.
use Prim.Native.Nat.{ℕ, ◌+◌, ◌-◌, ◌^◌}
use mathlib.Core.Path.{refl}
use mathlib.Core.List.{List, [], ◌∷◌, ◌++◌}
use lib.ListN.{replicate, set}
use Rattle.rules.specs.Memory.{Memory, both, empty}
use Rattle.rules.specs.Image.{encode, decode, started}
use Rattle.rules.specs.Buffer.{with_victims}
use Rattle.rules.specs.Refusals.{Request, start, translate, invlpg, invpcid, write_cr3, write_mode}
use Rattle.rules.specs.Calls.{with_flags}
use Rattle.rules.specs.declared.Cause.TheVariants.{NotPresent, Reserved, Protection}
use Rattle.rules.specs.declared.Answer.TheVariants.{Address, PageFault, Refused, Done}
use Rattle.rules.specs.TrialGuest.{starts_with}
use Rattle.rules.proofs.Cases.{Call, ◌gives◌, Ending, then, Case, blank, ready, ◌holds◌, victims, keeps, AllRight}

-- word 0 is the table itself; 1 a page; 2 a global page; 3 a 2 MiB page and 4 a 1 GiB page; 5 a supervisor's table with nothing in it;
-- 6 a page not writable; 7 a table outside memory; 8 a large page with bit 13 set; 9 a page not executable; 10 the table itself, for the supervisor;
-- 17, 33, 49, 65 pages of the same set as 1
abbrev tables : List ℕ
tables =
    0x1007 ∷ 0x5007 ∷ 0x6107 ∷ 0xA00087 ∷ 0x80000087 ∷ 0x1 ∷ 0x5005 ∷ 0x2007 ∷ 0x602087 ∷ 0x8000000000005007 ∷ 0x1003 ∷ []
    ++ replicate 6 0 ++ (0x7007 ∷ []) ++ replicate 15 0 ++ (0x8007 ∷ []) ++ replicate 15 0 ++ (0x9007 ∷ []) ++ replicate 15 0 ++ (0xA007 ∷ [])

abbrev guest : Memory
guest = both (starts_with [] ++ starts_with tables) []

abbrev pub own : List Call → List Ending → Case
own cs es = record { image = blank; memory = guest; calls = ready ++ cs; endings = es }

-- ---- hits of each size, in any part of the page; a write asks for a dirty page; a full set gives the victim's way, one that is not the lowest free way
abbrev hits : List Case
hits =
    own []
    (then
    (translate 0 0x1ABC 0 gives Address 0x5ABC 0x1000 4
    ∷ translate 3 0x1DEF 0 gives Address 0x5DEF 0x1000 0
    ∷ translate 0 0x6ABCDE 0 gives Address 0xAABCDE 0x200000 3
    ∷ translate 2 0x7FFFFF 0 gives Address 0xBFFFFF 0x200000 0
    ∷ translate 0 0x112345678 0 gives Address 0x92345678 0x40000000 2
    ∷ translate 5 0x13FFFFFFF 0 gives Address 0xBFFFFFFF 0x40000000 0
    ∷ translate 1 0x1000 0 gives Address 0x5000 0x1000 4
    ∷ translate 4 0x1000 0 gives Address 0x5000 0x1000 0
    ∷ []) (keeps (4 ∷ 76 ∷ 96 ∷ []) ∷ victims 0 ∷ 0x1008 holds 0x5067 ∷ [])
    ∷ [])
    ∷ own
    (translate 0 0x1000 0 gives Address 0x5000 0x1000 4
    ∷ translate 0 0x11000 0 gives Address 0x7000 0x1000 4
    ∷ translate 0 0x21000 0 gives Address 0x8000 0x1000 4
    ∷ translate 0 0x31000 0 gives Address 0x9000 0x1000 4
    ∷ [])
    (then
    (translate 0 0x41000 0 gives Address 0xA000 0x1000 4
    ∷ translate 0 0x11000 0 gives Address 0x7000 0x1000 0
    ∷ translate 0 0x1000 0 gives Address 0x5000 0x1000 4
    ∷ translate 0 0x11000 0 gives Address 0x7000 0x1000 4
    ∷ translate 0 0x41000 0 gives Address 0xA000 0x1000 0
    ∷ []) (keeps (4 ∷ 5 ∷ 6 ∷ 7 ∷ []) ∷ victims 12 ∷ [])
    ∷ then
    (invlpg 0x11000 gives Done
    ∷ translate 0 0x41000 0 gives Address 0xA000 0x1000 4
    ∷ translate 0 0x1000 0 gives Address 0x5000 0x1000 0
    ∷ []) (keeps (4 ∷ 5 ∷ 6 ∷ 7 ∷ []) ∷ victims 0 ∷ [])
    ∷ [])
    ∷ []

-- ---- walks
abbrev walks : List Case
walks =
    own []
    (
    -- an entry that forbids, over one that is missing
    then (translate 4 0x28000000000 0 gives PageFault NotPresent 3 6 2 ∷ []) (0x1028 holds 0x1 ∷ [])
    -- one word at four levels
    ∷ then (translate 1 0x0 0 gives Address 0x1000 0x1000 4 ∷ []) (0x1000 holds 0x1067 ∷ [])
    -- reserved bits, by level and page kind: bit 7 is one at level 4 only, bit 13 for large pages only
    ∷ then
    (translate 0 0x18000000000 0 gives PageFault Reserved 4 9 1
    ∷ translate 0 0x200000000 0 gives PageFault Reserved 3 9 2
    ∷ translate 0 0x1000000 0 gives PageFault Reserved 2 9 3
    ∷ translate 0 0x8000 0 gives Address 0x602000 0x1000 4
    ∷ translate 0 0x3000 0 gives Address 0xA00000 0x1000 4
    ∷ []) []
    -- bit 63 bars a fetch with NXE on, and is reserved with it off
    ∷ then
    (translate 0 0x9000 0 gives Address 0x5000 0x1000 4
    ∷ translate 2 0x9000 0 gives PageFault Protection 1 0x11 4
    ∷ write_mode 7 gives Done
    ∷ translate 0 0x9000 0 gives PageFault Reserved 1 9 4
    ∷ []) (keeps [] ∷ [])
    -- a code tells a fetch with NXE on and not with it off, whatever the cause
    ∷ then
    (translate 2 0x28000000000 0 gives PageFault NotPresent 3 0x10 2
    ∷ translate 5 0x200000000 0 gives PageFault Reserved 3 0x1D 2
    ∷ translate 5 0x5000 0 gives PageFault Protection 1 0x15 4
    ∷ write_mode 7 gives Done
    ∷ translate 2 0x28000000000 0 gives PageFault NotPresent 3 0 2
    ∷ translate 5 0x200000000 0 gives PageFault Reserved 3 0xD 2
    ∷ translate 5 0x5000 0 gives PageFault Protection 1 5 4
    ∷ []) []
    -- write protect, that of now: off, it lets a supervisor write, and no user
    ∷ then
    (translate 1 0x6000 0 gives PageFault Protection 1 3 4
    ∷ write_mode 21 gives Done
    ∷ translate 4 0x6000 0 gives PageFault Protection 1 7 4
    ∷ translate 1 0x6000 0 gives Address 0x5000 0x1000 4
    ∷ translate 1 0x6000 0 gives Address 0x5000 0x1000 0
    ∷ write_mode 23 gives Done
    ∷ translate 0 0x6000 0 gives Address 0x5000 0x1000 0
    ∷ translate 1 0x6000 0 gives PageFault Protection 1 3 4
    ∷ []) (keeps [] ∷ 0x1030 holds 0x5065 ∷ [])
    -- an entry outside memory: with M 40 it is malformed; with M 52 and NXE on it is a page, dirty, global, not executable
    ∷ then (translate 0 0xE00000 0 gives PageFault Reserved 1 9 4 ∷ []) (0x1038 holds 0x2007 ∷ [])
    ∷ then
    (start 52 gives Done
    ∷ write_cr3 0x1000 gives Done
    ∷ write_mode 23 gives Done
    ∷ translate 0 0xE00123 0 gives Address 0xFFFFFFFFFF123 0x1000 4
    ∷ write_cr3 0x1000 gives Done
    ∷ translate 1 0xE00000 0 gives Address 0xFFFFFFFFFF000 0x1000 0
    ∷ translate 2 0xE00000 0 gives PageFault Protection 1 0x11 4
    ∷ []) (keeps [] ∷ 0x1038 holds 0x2027 ∷ [])
    ∷ [])
    ∷ []

-- ---- drops: with PCIDE on, slot 4 holds page 1 for PCID 1, slot 5 for PCID 2, slot 8 a global page, slot 76 a 2 MiB page for PCID 1; PCID 2 is current
abbrev does : Request → List ℕ → Ending
does q is = then (q gives Done ∷ []) (keeps is ∷ victims 0 ∷ [])

abbrev drops : List Case
drops =
    own
    (write_mode 31 gives Done
    ∷ write_cr3 0x1001 gives Done
    ∷ translate 0 0x1000 0 gives Address 0x5000 0x1000 4
    ∷ translate 0 0x2000 0 gives Address 0x6000 0x1000 4
    ∷ translate 0 0x600000 0 gives Address 0xA00000 0x200000 3
    ∷ write_cr3 (2 ^ 63 + 0x1002) gives Done
    ∷ translate 0 0x1000 0 gives Address 0x5000 0x1000 4
    ∷ translate 0 0x2000 0 gives Address 0x6000 0x1000 0
    ∷ [])
    (does (invlpg 0x1FFF) (4 ∷ 8 ∷ 76 ∷ [])
    ∷ does (invlpg 0x2ABC) (4 ∷ 5 ∷ 76 ∷ [])
    ∷ does (invlpg 0x600000) (4 ∷ 5 ∷ 8 ∷ 76 ∷ [])
    ∷ does (invlpg (2 ^ 47 + 0x1000)) (4 ∷ 5 ∷ 8 ∷ 76 ∷ [])
    ∷ does (invpcid 0 1 0x1000) (5 ∷ 8 ∷ 76 ∷ [])
    ∷ does (invpcid 0 1 0x2000) (4 ∷ 5 ∷ 8 ∷ 76 ∷ [])
    ∷ does (invpcid 0 1 0x7FFFFF) (4 ∷ 5 ∷ 8 ∷ [])
    ∷ does (invpcid 1 1 0) (5 ∷ 8 ∷ [])
    ∷ does (invpcid 2 0 0) []
    ∷ does (invpcid 3 0 0) (8 ∷ [])
    ∷ does (write_cr3 0x1001) (5 ∷ 8 ∷ [])
    ∷ does (write_cr3 (2 ^ 63 + 0x1001)) (4 ∷ 5 ∷ 8 ∷ 76 ∷ [])
    ∷ does (write_mode 29) (4 ∷ 5 ∷ 8 ∷ 76 ∷ [])
    ∷ does (write_mode 63) (4 ∷ 5 ∷ 8 ∷ 76 ∷ [])
    ∷ does (write_mode 95) (4 ∷ 5 ∷ 8 ∷ 76 ∷ [])
    ∷ does (write_mode 15) []
    ∷ does (write_mode 23) []
    ∷ does (write_mode 27) []
    ∷ does (start 40) []
    ∷ [])
    ∷ own (translate 0 0x1000 0 gives Address 0x5000 0x1000 4 ∷ []) (does (write_mode 22) [] ∷ [])
    ∷ []

-- ---- refusals, each at its edge, and the lowest that applies
abbrev pub on : List ℕ → Memory → List Call → Case
on image memory cs = record { image = image; memory = memory; calls = cs; endings = [] }

abbrev refusals : List Case
refusals =
    on (replicate 2047 0) empty (start 40 gives Refused 2 ∷ [])
    ∷ on (replicate 2049 0) empty (start 40 gives Refused 2 ∷ invlpg 0 gives Refused 2 ∷ [])
    ∷ on blank empty (start 35 gives Refused 2 ∷ start 36 gives Done ∷ start 52 gives Done ∷ start 53 gives Refused 2 ∷ [])
    ∷ on (encode (started 35 0)) empty (invlpg 0 gives Refused 2 ∷ [])
    ∷ on (encode (started 53 0)) empty (translate 6 0 0 gives Refused 2 ∷ [])
    ∷ on (encode (with_flags 128 (started 40 0))) empty (write_cr3 0 gives Refused 2 ∷ [])
    ∷ on (encode (with_flags 127 (started 40 0))) empty (write_cr3 0 gives Done ∷ [])
    ∷ on (encode (with_victims (2 ^ 50) (started 40 0))) empty (write_mode 0 gives Refused 2 ∷ [])
    ∷ on (encode (with_victims (2 ^ 50 - 1) (started 40 0))) empty (write_mode 0 gives Done ∷ [])
    ∷ on (set (encode (started 40 0)) 1631 1) empty (invpcid 2 0 0 gives Done ∷ [])
    ∷ on (set (encode (started 40 0)) 1632 1) empty (invpcid 2 0 0 gives Refused 2 ∷ [])
    ∷ on (set (encode (started 40 0)) 2047 1) empty (invpcid 4 0 0 gives Refused 2 ∷ [])
    ∷ on blank empty
    (start 40 gives Done ∷ translate 5 0 0 gives Address 0 0 0 ∷ translate 6 0 0 gives Refused 3
    ∷ translate 0 0xFFFFFFFF 0 gives Address 0xFFFFFFFF 0 0 ∷ translate 0 0x100000000 0 gives Refused 5 ∷ [])
    ∷ on blank (both (replicate 4095 0) [])
    (start 40 gives Done ∷ translate 0 0x100000000 0 gives Refused 4 ∷ translate 6 0 0 gives Refused 3 ∷ invlpg 0 gives Done ∷ [])
    ∷ on blank empty
    (ready
    ++ (translate 0 (2 ^ 47 - 1) 0 gives PageFault Reserved 4 9 1 ∷ translate 0 (2 ^ 47) 0 gives Refused 5
    ∷ translate 0 (2 ^ 64 - 2 ^ 47 - 1) 0 gives Refused 5 ∷ translate 0 (2 ^ 64 - 2 ^ 47) 0 gives PageFault Reserved 4 9 1 ∷ []))
    ∷ on blank empty
    (start 40 gives Done ∷ write_cr3 (2 ^ 39) gives Done ∷ write_cr3 (2 ^ 40) gives Refused 6 ∷ write_cr3 (2 ^ 62) gives Refused 6
    ∷ write_cr3 (2 ^ 63) gives Refused 6 ∷ write_mode 9 gives Done ∷ write_cr3 (2 ^ 63) gives Done ∷ [])
    ∷ on blank empty
    (start 40 gives Done ∷ write_mode 128 gives Refused 7 ∷ write_mode 118 gives Done ∷ write_mode 8 gives Refused 7 ∷ write_cr3 0x800 gives Done
    ∷ write_mode 31 gives Refused 7 ∷ write_cr3 0 gives Done ∷ write_mode 127 gives Done ∷ write_cr3 0x800 gives Done ∷ write_mode 27 gives Done ∷ [])
    ∷ on blank empty
    (start 40 gives Done ∷ invpcid 4 0 0 gives Refused 8 ∷ invpcid 3 4095 0 gives Done ∷ invpcid 2 4096 0 gives Refused 8
    ∷ invpcid 0 0 (2 ^ 47) gives Refused 8 ∷ invpcid 1 0 (2 ^ 47) gives Done ∷ invpcid 0 1 0 gives Refused 8
    ∷ invpcid 1 1 0 gives Refused 8 ∷ write_mode 9 gives Done ∷ invpcid 0 1 0 gives Done ∷ invpcid 1 1 0 gives Done ∷ [])
    ∷ []

pub all_own : AllRight (hits ++ (walks ++ (drops ++ refusals)))
unfolding encode decode
all_own = refl
