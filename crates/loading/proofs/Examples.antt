-- Why a state is loaded with paging off at first.
use Prim.Native.Nat.{ℕ}
use mathlib.Core.Path.{◌≡◌, refl}
use native.Mathlib.Omega.{arith}
use lib.ListN.{replicate}
use Rattle.rules.specs.Image.{encode, decode}
use Rattle.rules.specs.Memory.{Memory, empty}
use Rattle.rules.specs.Refusals.{write_cr3, write_mode}
use Rattle.sequences.specs.History.{History, begun, ◌then◌with◌, bytes}
use Rattle.sequences.specs.Spans.{RootA}

-- a start with all the flags leaves root 0 in force until the CR3 write, which does not cover global slots: (a) does not hold
abbrev started_paged : History
started_paged = begun (replicate 2048 0) 40 31 refl then write_cr3 0x1005 with empty

pub not_a_paged : (mem : Memory) → RootA started_paged mem 0x1000 → ⊥
unfolding bytes encode decode
not_a_paged mem c = let z : ◌≡◌ {A = ℕ} 0x0000 0x1000 = c.root_global.1 in omega arith

-- the same state, loaded by the four calls, stands under (a), whatever memory is given: the mode write covers everything, and after it there was one root
abbrev loaded : History
loaded = begun (replicate 2048 0) 40 22 refl then write_cr3 0x1000 with empty then write_mode 31 with empty then write_cr3 0x1005 with empty

pub under_a_loaded : (mem : Memory) → RootA loaded mem 0x1000
unfolding bytes encode decode
under_a_loaded mem = record { root_global = (refl, (refl, tt)); root_others = (refl, tt); memory_global = tt; memory_others = tt }
