-- Guest memory: "RAM with a hole" of document 02. Bytes in two parts, low from 0 up and high from 4 GiB up, known to the other rules by two names only, the entry
-- at an address and a bit added at an address.
use Rattle.std.specs.Prelude.{ℕ, ◌+◌, ◌-◌, ◌*◌, ◌/◌, ◌%◌, ◌^◌, ◌≤◌, ◌≡◌, Bool, cond, ◌||◌, not, List, [], length, get_or, take, drop, set, leb, ltb, eqb}
use Rattle.rules.specs.Bits.{word_at, with_bit}

pub record Memory : Type 0 where
  pub low : List ℕ
  pub high : List ℕ

abbrev pub both : List ℕ → List ℕ → Memory
both l h = record { low = l; high = h }

-- no byte at all
abbrev pub empty : Memory
empty = both [] []

-- where high begins, and how long low may be
abbrev pub high_base : ℕ
high_base = 0x100000000

abbrev pub low_most : ℕ
low_most = 0xB0000000

-- ---- in one part, by the distance from its first byte
abbrev pub all_ones : ℕ
all_ones = 2 ^ 64 - 1

-- eight bytes as a number; where they do not lie in the part, every bit reads as set
abbrev pub entry_in : List ℕ → ℕ → ℕ
entry_in part a = cond (leb (a + 8) (length part)) (word_at part a) all_ones

-- one of an entry's lowest eight bits set in place, whatever else the byte holds by now; past the part's end nothing happens
abbrev pub added_in : ℕ → ℕ → List ℕ → List ℕ
added_in k a part = set part a (with_bit k (get_or part a 0))

-- the 4 KiB that an address falls into, if the part has them
abbrev pub page_of_part : List ℕ → ℕ → List ℕ
page_of_part part a = cond (ltb (a / 4096) (length part / 4096)) (take 4096 (drop (a / 4096 * 4096) part)) []

-- ---- at a physical address: below 4 GiB it is one of low, from there on of high. What lies between low's end and 4 GiB is the hole
abbrev pub entry_at : Memory → ℕ → ℕ
entry_at mem a = cond (ltb a high_base) (entry_in mem.low a) (entry_in mem.high (a - high_base))

abbrev pub added : ℕ → ℕ → Memory → Memory
added k a mem =
    cond (ltb a high_base) (both (added_in k a mem.low) mem.high) (both mem.low (added_in k (a - high_base) mem.high))

-- ---- memory that is refused: a part that is not a whole number of 4 KiB pages, or low above its limit
abbrev pub no_lengths : Memory → Bool
no_lengths mem = not (eqb (length mem.low % 4096) 0) || not (eqb (length mem.high % 4096) 0) || ltb low_most (length mem.low)

-- what walks ask of memory, and memory that is not refused has: whole words, and a low that does not reach beyond 4 GiB
pub record Whole (mem : Memory) : Type 0 where
  pub low : length mem.low % 8 ≡ 0
  pub high : length mem.high % 8 ≡ 0
  pub below : length mem.low ≤ high_base

-- ---- the page lookup: the 4 KiB page that holds a physical address, as a part of low or of high; empty if neither has it, or if memory is refused
abbrev pub page_of : Memory → ℕ → List ℕ
page_of mem a =
    cond (no_lengths mem) [] (cond (ltb a high_base) (page_of_part mem.low a) (page_of_part mem.high (a - high_base)))
