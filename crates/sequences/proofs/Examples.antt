-- The claims are not empty: short histories, computed. Each answer stands beside the one that the call would give without a buffer, so that it is seen
-- where the two differ; the claims allow every one of them.
-- The guest is a page, at 0, that serves as the table of every level, and a second such page, at 0x1000, for another root: an address's indexes say which
-- words are read.
use Prim.Native.Nat.{ℕ, ◌+◌, ◌^◌}
use mathlib.Core.Path.{◌≡◌, refl, ap}
use mathlib.Core.Bool.{true, false}
use mathlib.Core.List.{List, [], ◌∷◌, ◌++◌}
use native.Mathlib.Omega.{arith}
use lib.ListN.{length, replicate}
use Rattle.rules.specs.Bits.{bytes_of_all}
use Rattle.rules.specs.Image.{Image, tag_of, started, encode, decode}
use Rattle.rules.specs.Memory.{Memory, both, empty, entry_at}
use Rattle.rules.specs.Buffer.{stored}
use Rattle.rules.specs.Refusals.{start_with, translate, invlpg, invpcid, write_cr3, write_mode}
use Rattle.rules.specs.Calls.{call}
use Rattle.rules.specs.Many.{pairs_from, made, many}
use Rattle.rules.specs.TrialGuest.{starts_with}
use Rattle.rules.specs.declared.Answer.{Answer}
use Rattle.rules.specs.declared.Cause.TheVariants.{Protection}
use Rattle.rules.specs.declared.Answer.TheVariants.{Address, PageFault}
use Rattle.sequences.specs.History.{History, begun, ◌then◌with◌, bytes, image}
use Rattle.sequences.specs.Doors.{Doors, opened, ◌then◌with◌into◌, ◌then_many◌with◌into◌, door_bytes, history_of}
use Rattle.sequences.specs.Covers.{global, others, names, covered}
use Rattle.sequences.specs.Spans.{OnlyTranslator, RootA, RootB}
use Rattle.sequences.specs.Claims.{plain}
use Rattle.sequences.specs.Drops.{held_in}

-- word 0 of each table is the table itself; of the first, words 1, 2 and 3 are given
abbrev guest : ℕ → ℕ → ℕ → Memory
guest one two three = both (starts_with (0x0007 ∷ one ∷ two ∷ three ∷ []) ++ starts_with (0x1007 ∷ 0x7007 ∷ 0x7107 ∷ [])) []

-- a page, a global page and a table; then the guest has changed all three: other pages, and a page of 2 MiB
abbrev first : Memory
first = guest 0x5007 0x6107 0x0007

abbrev changed : Memory
changed = guest 0x8007 0x9107 0xA00087

-- paging on, with write protect, global pages and NXE; and with PCIDs besides
abbrev ready : History
ready = begun (replicate 2048 0) 40 2 refl then write_mode 23 with empty

abbrev with_pcids : History
with_pcids = ready then write_mode 31 with empty then write_cr3 0x0001 with empty

-- ---- a case: a translate after a history, what it answers, and what it answers without a buffer
abbrev Shows : History → Memory → ℕ → ℕ → ℕ → Answer → Answer → Type 0
Shows h mem k a ac r p = ((call (bytes h) mem (translate k a ac)).answer ≡ r) × ((plain (image h) mem k a ac).answer ≡ p)

-- what a translate leaves of guest memory
abbrev left : History → Memory → ℕ → ℕ → ℕ → Memory
left h mem k a ac = (call (bytes h) mem (translate k a ac)).memory

-- ---- histories
-- a page was read; a global page was read
abbrev read : History
read = ready then translate 0 0x1000 0 with first

abbrev read_global : History → History
read_global h = h then translate 0 0x2000 0 with first

-- a page was read, and the next PCID is current
abbrev other : History
other = with_pcids then translate 0 0x1000 0 with first then write_cr3 (2 ^ 63 + 0x0002) with empty

-- a page was read and then written to, nobody else having written to memory
abbrev written : History
written = read then translate 1 0x1000 0 with left ready first 0 0x1000 0

-- a page was read, and then the root of its PCID changed without a flush
abbrev moved : History
moved = with_pcids then translate 0 0x1000 0 with first then write_cr3 (2 ^ 63 + 0x1001) with empty

-- a page was read, another PCID ran under its own root, and the first is back
abbrev returned : History
returned = with_pcids then translate 0 0x1000 0 with first then write_cr3 (2 ^ 63 + 0x1002) with empty then write_cr3 (2 ^ 63 + 0x0001) with empty

-- a small page was read; a neighbour was read when both had become part of a page of 2 MiB
abbrev nearby : History
nearby = ready then translate 0 0x601000 0 with first then translate 0 0x605000 0 with changed

pub all_shown :
    -- the guest changed its table and did not invalidate: the answer is that of before. After INVLPG it is the new page
    Shows read changed 0 0x1000 0 (Address 0x5000 0x1000 0) (Address 0x8000 0x1000 4)
    × Shows (read then invlpg 0x1FFF with empty) changed 0 0x1000 0 (Address 0x8000 0x1000 4) (Address 0x8000 0x1000 4)
    -- a global page stays through a CR3 write, and through INVPCID of its address; it answers under another PCID and another root
    × Shows (read_global ready then write_cr3 0x0000 with empty) changed 0 0x2000 0 (Address 0x6000 0x1000 0) (Address 0x9000 0x1000 4)
    × Shows (read_global with_pcids then invpcid 0 1 0x2000 with empty) changed 0 0x2000 0 (Address 0x6000 0x1000 0) (Address 0x9000 0x1000 4)
    × Shows (read_global with_pcids then write_cr3 0x1002 with empty) first 0 0x2000 0 (Address 0x6000 0x1000 0) (Address 0x7000 0x1000 4)
    -- another PCID walks; the first comes back without a flush and finds its page
    × Shows other changed 0 0x1000 0 (Address 0x8000 0x1000 4) (Address 0x8000 0x1000 4)
    × Shows (other then translate 0 0x1000 0 with changed then write_cr3 (2 ^ 63 + 0x0001) with empty) changed 0 0x1000 0 (Address 0x5000 0x1000 0) (Address 0x8000 0x1000 4)
    -- a write to a clean page walks once more, and from then on is answered
    × Shows read (left ready first 0 0x1000 0) 1 0x1000 0 (Address 0x5000 0x1000 4) (Address 0x5000 0x1000 4)
    × Shows written (left read (left ready first 0 0x1000 0) 1 0x1000 0) 1 0x1000 0 (Address 0x5000 0x1000 0) (Address 0x5000 0x1000 4)
    -- the root changed without a flush: only the translator wrote to memory, and yet the answer is not that of the walk
    × Shows moved (left with_pcids first 0 0x1000 0) 0 0x1000 0 (Address 0x5000 0x1000 0) (Address 0x7000 0x1000 4)
    -- the root of another PCID does not matter
    × Shows returned (left with_pcids first 0 0x1000 0) 0 0x1000 0 (Address 0x5000 0x1000 0) (Address 0x5000 0x1000 4)
    -- INVLPG of the neighbour drops the page of 2 MiB that holds both, and not the small page of before
    × Shows (nearby then invlpg 0x605000 with empty) changed 0 0x601000 0 (Address 0x5000 0x1000 0) (Address 0xA01000 0x200000 3)
unfolding bytes encode decode
all_shown = (
  (refl, refl),
  (refl, refl),
  (refl, refl),
  (refl, refl),
  (refl, refl),
  (refl, refl),
  (refl, refl),
  (refl, refl),
  (refl, refl),
  (refl, refl),
  (refl, refl),
  (refl, refl),
)

-- ---- rights are judged by the flags and by AC of now. A page was read while SMAP was off, and now it is on
abbrev guarded : History
guarded = read then write_mode 87 with empty

abbrev lent : Memory
lent = left ready first 0 0x1000 0

pub judged_now :
    -- the page is held, and with AC it answers; without AC this is a fault, that of the walk of now, and memory is as it was
    Shows guarded lent 0 0x1000 1 (Address 0x5000 0x1000 0) (Address 0x5000 0x1000 4)
    × Shows guarded lent 0 0x1000 0 (PageFault Protection 1 1 4) (PageFault Protection 1 1 4)
    × (left guarded lent 0 0x1000 0 ≡ lent)
    -- the next time, with AC, it is the address again, by a walk: the fault dropped the slot
    × Shows (guarded then translate 0 0x1000 0 with lent) lent 0 0x1000 1 (Address 0x5000 0x1000 4) (Address 0x5000 0x1000 4)
unfolding bytes encode decode
judged_now = ((refl, refl), (refl, refl), refl, (refl, refl))

-- ---- both parts are guest memory: tables of this guest stand in low and in high by turns. When it has changed high alone and has not invalidated, the answer is
-- that of before; and memory is no longer what the translator left, nor is it if high alone has grown
abbrev across : ℕ → List ℕ → Memory
across one more = both (starts_with (0x100000007 ∷ [])) (starts_with (0x0007 ∷ one ∷ []) ++ more)

abbrev read_across : History
read_across = ready then translate 0 0x1000 0 with across 0x5007 []

pub both_parts : Shows ready (across 0x5007 []) 0 0x1000 0 (Address 0x5000 0x1000 4) (Address 0x5000 0x1000 4)
    × Shows read_across (across 0x8007 []) 0 0x1000 0 (Address 0x5000 0x1000 0) (Address 0x8000 0x1000 4)
    × (OnlyTranslator (covered (others 0) 0x1000) read_across (left ready (across 0x5007 []) 0 0x1000 0))
    × (OnlyTranslator (covered (others 0) 0x1000) read_across (across 0x8007 []) → ⊥)
    × (OnlyTranslator (covered (others 0) 0x1000) read_across (across 0x5027 (starts_with [])) → ⊥)
unfolding bytes encode decode
both_parts = (
  (refl, refl),
  (refl, refl),
  (refl, tt),
  λ o. let z : ◌≡◌ {A = ℕ} 0x8007 0x5027 = ap (λ (m : Memory). entry_at m 0x100000008) o.0 in omega arith,
  λ o. let z : ◌≡◌ {A = ℕ} 8192 4096 = ap (λ (m : Memory). length m.high) o.0 in omega arith,
)

-- ---- what does not cover: a CR3 write and INVPCID type 0 a global slot, INVLPG of a neighbour an address of the same 2 MiB
pub not_covered : (covered global 0x2000 (read_global ready) empty (write_cr3 0x0000) ≡ false)
    × (covered global 0x2000 (read_global with_pcids) empty (invpcid 0 1 0x2000) ≡ false)
    × (covered (others 0) 0x601000 nearby empty (invlpg 0x605000) ≡ false)
unfolding bytes encode decode
not_covered = (refl, refl, refl)

-- ---- why the claims on drops ask for a slot that an address names: page 1, by hand in set 0, which is not its own, stays through INVLPG of its address,
-- though the list names what it holds
abbrev misplaced : Image
misplaced = stored 0 (record { tag = tag_of false 0 1; datum = 0 }) (started 40 0)

pub not_placed : (names misplaced (invlpg 0x1000) (held_in 0 (misplaced.slots 0).tag) ≡ true)
    × ((decode (call (encode misplaced) empty (invlpg 0x1000)).image).slots 0 ≡ misplaced.slots 0)
unfolding encode decode
not_placed = (refl, refl)

-- ---- the root condition: the write that is answered stands under (a), since the last operation that covers everything is the mode write; the PCID that is
-- back stands under (b)
pub under_a : RootA written (left read (left ready first 0 0x1000 0) 1 0x1000 0) 0x1000
unfolding bytes encode decode
under_a =
    record {
      root_global = (refl, (refl, (refl, tt)));
      root_others = (refl, (refl, (refl, tt)));
      memory_global = (refl, (refl, tt));
      memory_others = (refl, (refl, tt));
    }

pub under_b : RootB returned (left with_pcids first 0 0x1000 0) 0x1000
unfolding bytes encode decode
under_b =
    record {
      no_global = (refl, (refl, (refl, (refl, (refl, tt)))));
      root_others = (λ e. refl, (λ e. let z : ◌≡◌ {A = ℕ} 2 1 = e in absurd (omega arith), (λ e. refl, (λ e. refl, tt))));
      memory_others = (refl, tt);
    }

-- where the PCID's own root changed, only the translator wrote to memory, and yet neither (a) nor (b) holds, whatever memory is given
pub only_root : OnlyTranslator (covered (others 1) 0x1000) moved (left with_pcids first 0 0x1000 0)
unfolding bytes encode decode
only_root = (refl, tt)

pub not_a : (mem : Memory) → RootA moved mem 0x1000 → ⊥
unfolding bytes encode decode
not_a mem c = let z : ◌≡◌ {A = ℕ} 0x0000 0x1000 = c.root_others.1.0 in omega arith

pub not_b : (mem : Memory) → RootB moved mem 0x1000 → ⊥
unfolding bytes encode decode
not_b mem c = let z : ◌≡◌ {A = ℕ} 0x0000 0x1000 = c.root_others.1.0 refl in omega arith

-- ---- starts: one in the middle of a history covers everything, so the page that was read before is walked to anew
abbrev restarted : History
restarted = read_global read then start_with 40 23 with empty

pub start_covers : (covered global 0x2000 (read_global read) empty (start_with 40 23) ≡ true)
    × (covered (others 0) 0x1000 (read_global read) empty (start_with 40 23) ≡ true)
    × Shows restarted changed 0 0x1000 0 (Address 0x8000 0x1000 4) (Address 0x8000 0x1000 4)
unfolding bytes encode decode
start_covers = (refl, refl, (refl, refl))

-- ---- a batch: in one call a page is read, written to and written to again. The third of its calls is answered by the buffer, and is the write that stands
-- under (a); the batch before it, with too few answer bytes, is no call. Then the guest changed its table and did not invalidate
abbrev ready_doors : Doors
ready_doors = opened (replicate 32 0) (replicate 2048 0) 40 2 refl refl then write_mode 23 with empty into replicate 32 0

abbrev thrice : List ℕ
thrice = bytes_of_all (0 ∷ 0x1000 ∷ 1 ∷ 0x1000 ∷ 1 ∷ 0x1000 ∷ [])

abbrev batched : Doors
batched = ready_doors then_many thrice with first into replicate 95 0 then_many thrice with first into replicate 96 0

pub batch_shown : (history_of batched ≡ (written then translate 1 0x1000 0 with left read (left ready first 0 0x1000 0) 1 0x1000 0))
    × ((many (replicate 96 0) (door_bytes ready_doors) first thrice).answer
    ≡ bytes_of_all (0 ∷ 0x5000 ∷ 0x1000 ∷ 4 ∷ 0 ∷ 0x5000 ∷ 0x1000 ∷ 4 ∷ 0 ∷ 0x5000 ∷ 0x1000 ∷ 0 ∷ []))
    × Shows (history_of batched) changed 1 0x1000 0 (Address 0x5000 0x1000 0) (Address 0x8000 0x1000 4)
unfolding bytes encode decode pairs_from made
batch_shown = (refl, refl, (refl, refl))
