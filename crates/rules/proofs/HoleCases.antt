-- Cases of RAM with a hole, as one list under one claim, and the page lookup. The guest is 8 KiB of low and 8 KiB of high. A page of each serves as the table of every level,
-- so that an address's indexes say which words are read, in low and in high by turns.
use Prim.Native.Nat.{ℕ}
use mathlib.Core.Path.{◌≡◌, refl}
use mathlib.Core.List.{List, [], ◌∷◌, ◌++◌, map}
use lib.ListN.{length, take, replicate}
use Rattle.rules.specs.Image.{encode, decode}
use Rattle.rules.specs.Memory.{Memory, both, empty, page_of}
use Rattle.rules.specs.Refusals.{start, translate, write_cr3, write_mode}
use Rattle.rules.specs.TrialGuest.{starts_with}
use Rattle.rules.specs.declared.Cause.TheVariants.{NotPresent, Reserved}
use Rattle.rules.specs.declared.Answer.TheVariants.{Address, PageFault, Refused, Done}
use Rattle.rules.proofs.Cases.{Call, ◌gives◌, then, Case, blank, ready, ◌holds◌, AllRight}

-- low, at 0x1000: the table in high; tables just past low's end, just below 4 GiB, in high's last page and just past high's end; the table itself.
-- High, at 0x100000000: the table in low; a page in high, one in low; the table itself
abbrev guest : Memory
guest =
    both (starts_with [] ++ starts_with (0x100000007 ∷ 0x2007 ∷ 0xFFFFF007 ∷ 0x100001007 ∷ 0x100002007 ∷ 0x1007 ∷ []))
    (starts_with (0x1007 ∷ 0x100001007 ∷ 0x5007 ∷ 0x100000007 ∷ []) ++ starts_with [])

abbrev with : Memory → List Call → Case
with mem cs = record { image = blank; memory = mem; calls = ready ++ cs; endings = [] }

abbrev holes : List Case
holes =
    -- low, high, low, high; then a hit; and marks in both
    record {
      image = blank;
      memory = guest;
      calls = ready ++ (translate 0 0x1ABC 0 gives Address 0x100001ABC 0x1000 4 ∷ translate 0 0x1DEF 0 gives Address 0x100001DEF 0x1000 0 ∷ []);
      endings =
          then [] (0x1000 holds 0x100000027 ∷ 0x100000000 holds 0x1027 ∷ 0x100000008 holds 0x100001027 ∷ 0x1008 holds 0x2007 ∷ 0x100000010 holds 0x5007 ∷ [])
          ∷ then (translate 1 0x1000 0 gives Address 0x100001000 0x1000 4 ∷ []) (0x100000008 holds 0x100001067 ∷ 0x1008 holds 0x2007 ∷ [])
          -- all in high but the first: low, high, high, high; all in low but the last: low, low, low, high
          ∷ then (translate 1 0xC0602000 0 gives Address 0x5000 0x1000 4 ∷ [])
          (0x100000010 holds 0x5067 ∷ 0x100000018 holds 0x100000027 ∷ 0x1018 holds 0x100001007 ∷ [])
          ∷ then (translate 1 0x28140002000 0 gives Address 0x5000 0x1000 4 ∷ []) (0x1028 holds 0x1027 ∷ 0x100000010 holds 0x5067 ∷ [])
          -- entries just past low's end, just below 4 GiB and just past high's end read as all ones; those in high's last page are there
          ∷ then
          (translate 0 0x8000000000 0 gives PageFault Reserved 3 9 2
          ∷ translate 0 0x10000000000 0 gives PageFault Reserved 3 9 2
          ∷ translate 0 0x18000000000 0 gives PageFault NotPresent 3 0 2
          ∷ translate 0 0x20000000000 0 gives PageFault Reserved 3 9 2
          ∷ []) (0x1008 holds 0x2007 ∷ 0x1010 holds 0xFFFFF007 ∷ 0x1020 holds 0x100002007 ∷ [])
          -- with M 52 and NXE on such an entry is a page
          ∷ then
          (start 52 gives Done
          ∷ write_cr3 0x1000 gives Done
          ∷ write_mode 23 gives Done
          ∷ translate 1 0x200123 0 gives Address 0xFFFFFFFFFF123 0x1000 4
          ∷ []) (0x1008 holds 0x2027 ∷ [])
          ∷ [];
    }
    -- either length may be refused, and either may be 0
    ∷ with (both [] (replicate 4095 0)) (translate 6 0 0 gives Refused 3 ∷ translate 0 0x800000000000 0 gives Refused 4 ∷ [])
    ∷ with (both (replicate 4096 0) (replicate 1 0)) (translate 0 0 0 gives Refused 4 ∷ [])
    ∷ with (both (replicate 4097 0) (replicate 4096 0)) (translate 0 0 0 gives Refused 4 ∷ [])
    ∷ with (both [] (replicate 4096 0)) (translate 0 0 0 gives PageFault Reserved 4 9 1 ∷ [])
    ∷ with empty (write_cr3 0x100000000 gives Done ∷ translate 0 0 0 gives PageFault Reserved 4 9 1 ∷ [])
    ∷ []

pub all_holes : AllRight holes
unfolding encode decode
all_holes = refl

-- ---- the page lookup: the first byte of the page at an address, of pages that begin with their number
abbrev numbered : Memory
numbered = both (starts_with (1 ∷ []) ++ starts_with (2 ∷ [])) (starts_with (3 ∷ []) ++ starts_with (4 ∷ []))

abbrev first : Memory → ℕ → List ℕ
first mem a = take 1 (page_of mem a)

pub all_pages : (map (first numbered) (0 ∷ 0xFFF ∷ 0x1000 ∷ 0x1FFF ∷ 0x2000 ∷ 0xB0000000 ∷ 0xFFFFFFFF ∷ 0x100000000 ∷ 0x100000FFF ∷ 0x100001000 ∷ 0x100001FFF ∷ 0x100002000 ∷ 0x200000000 ∷ [])
    ≡ (1 ∷ []) ∷ (1 ∷ []) ∷ (2 ∷ []) ∷ (2 ∷ []) ∷ [] ∷ [] ∷ [] ∷ (3 ∷ []) ∷ (3 ∷ []) ∷ (4 ∷ []) ∷ (4 ∷ []) ∷ [] ∷ [] ∷ [])
    × (map (λ (a : ℕ). length (page_of numbered a)) (0x1000 ∷ 0x1FFF ∷ 0x100001FFF ∷ []) ≡ 4096 ∷ 4096 ∷ 4096 ∷ [])
    × (map (first (both (replicate 4096 7) (replicate 1 7))) (0 ∷ 0x100000000 ∷ []) ≡ [] ∷ [] ∷ [])
    × (map (first (both (replicate 4097 7) (replicate 4096 7))) (0 ∷ 0x100000000 ∷ []) ≡ [] ∷ [] ∷ [])
all_pages = (refl, refl, refl, refl)
