-- The walk's inputs and findings as numbers, which is how the code carries them from level to level: what each number stands for.
use Rattle.std.specs.Prelude.{ℕ, ◌+◌, ◌-◌, ◌*◌, ◌/◌, ◌%◌, ◌^◌, ◌≤◌, ◌<◌, ◌≡◌, Bool, true, false, cond, ◌&&◌, not, List, [], ◌∷◌, leb, ltb, eqb}
use Rattle.std.specs.Int.Bits.{bit_and, bit_xor}
use Rattle.rules.specs.Bits.{is_on, part, one}
use Rattle.rules.specs.Image.{nxe}
use Rattle.rules.specs.Memory.{Memory, entry_in, added_in, entry_at, added, Whole}
use Rattle.rules.specs.Formats.{rows, ranges_of, any_in}
use Rattle.rules.specs.Entries.{says}
use Rattle.rules.specs.Walk.{Leaf, End, reached, stuck, Reach, end_at, step, reach, judged, accessed, dirtied, marked, reach_in, Walked, walk}
use Rattle.rules.specs.declared.Control.{Control}
use Rattle.rules.specs.declared.Access.{Access}
use Rattle.rules.specs.declared.Rights.{Rights}
use Rattle.rules.specs.declared.Cause.{Cause}
use Rattle.rules.specs.declared.Cause.TheVariants.{NotPresent, Reserved, Protection}
use Rattle.rules.specs.declared.Found.{Found}
use Rattle.rules.specs.declared.Found.TheVariants.{Page, Fault}
use Rattle.formats.specs.Ranges.{mask_of}
use Rattle.numbers.specs.Needs.{needed_of, clear_of, ForEach}

-- what `walk` asks of its caller: a width, a table root below 2^52, and memory that is whole
pub record Ready (c : Control) (mem : Memory) : Type 0 where
  pub wide : 36 ≤ c.width
  pub narrow : c.width ≤ 52
  pub low : c.root < 2 ^ 52
  pub aligned : c.root % 8 ≡ 0
  pub whole : Whole mem

-- ---- what goes down
-- an entry with P, RW, US, A and D turned over: then a bit that is set says that something is lacking, as XD does
abbrev pub turned : ℕ → ℕ
turned e = bit_xor e 0x67

-- what is lacking so far, the disjunction of such entries, leaves these rights; and bit 5 says whether each was accessed
abbrev pub rights_of : ℕ → Rights
rights_of s = record { writable = not (is_on 1 s); user = not (is_on 2 s); executable = not (is_on 63 s) }

abbrev pub accessed_in : ℕ → Bool
accessed_in s = not (is_on 5 s)

-- the reserved bits of a table, which every row has
abbrev pub bad_of : Control → ℕ
bad_of c = mask_of (ranges_of (rows c.width (nxe c.flags)) 2 false)

-- a turned entry with none of these bits leads to a next table: these, bit 0 for one that is not present and bit 7 for a page, which at level 4 is reserved
abbrev pub bars_of : Control → ℕ
bars_of c = bad_of c + 0x81

pub record Bars (c : Control) (bars : ℕ) : Type 0 where
  pub wide : 36 ≤ c.width
  pub narrow : c.width ≤ 52
  pub are : bars ≡ bars_of c

-- the address, moved up until the index of a level stands in its nine highest bits
abbrev pub slid : ℕ → ℕ → ℕ
slid level a = a * 2 ^ (52 - 9 * level) % 2 ^ 64

-- ---- what comes back: a page from 2048 on, its base with global, level and what is lacking in the low bits, rights, dirty and accessed; else a fault, its
-- level and cause
abbrev pub pack_page : ℕ → ℕ → Rights → Bool → Bool → Bool → ℕ
pack_page base level r global dirty accessed =
    base
    + (2048 + one global * 256 + level * 32
    + (one (not r.writable) + one (not r.user) * 2 + one (not r.executable) * 4 + (one (not dirty) * 8 + one (not accessed) * 16)))

abbrev pub cause_code : Cause → ℕ
cause_code NotPresent = 0
cause_code Reserved = 1
cause_code Protection = 2

abbrev pub pack_fault : Cause → ℕ → ℕ
pack_fault cause level = level * 32 + cause_code cause

-- of an end, with whether each entry on the way was accessed
abbrev pub pack_end : End → Bool → ℕ
pack_end (reached p) accessed = pack_page p.base p.level p.rights p.global p.dirty accessed
pack_end (stuck cause level) accessed = pack_fault cause level

abbrev pub all_accessed : (ℕ → ℕ) → List ℕ → Bool
all_accessed rd [] = true
all_accessed rd (at ∷ path) = is_on 5 (rd at) && all_accessed rd path

abbrev pub pack_reach : Bool → (ℕ → ℕ) → Reach → ℕ
pack_reach before rd w = pack_end w.end (before && all_accessed rd w.path)

-- of a finding, whose page lacks no accessed mark any more
abbrev pub pack_found : Found → ℕ
pack_found (Page base level r global dirty n) = pack_page base level r global dirty true
pack_found (Fault cause level n) = pack_fault cause level

-- and back again; every level that was passed is an entry read
abbrev pub level_in : ℕ → ℕ
level_in n = n / 32 % 8

abbrev pub cause_in : ℕ → Cause
cause_in n = cond (eqb (n % 32) 0) NotPresent (cond (eqb (n % 32) 1) Reserved Protection)

abbrev pub unpack_of : ℕ → Found
unpack_of n =
    cond (leb 2048 n)
    (Page (n / 4096 * 4096) (level_in n) (record { writable = not (is_on 0 n); user = not (is_on 1 n); executable = not (is_on 2 n) }) (is_on 8 n) (not (is_on 3 n))
    (5 - level_in n))
    (Fault (cause_in n) (level_in n) (5 - level_in n))

-- ---- what the code does from a level on, in the rules' terms: for whatever control and address the numbers stand for
-- an entry that is present, has no bit that every row has, and leads to no table: of its row what is left is looked at, which is the row at width 52 with NXE on
abbrev pub is_reserved_page : ℕ → ℕ → Bool
is_reserved_page level t = any_in (ranges_of (rows 52 true) level (ltb level 4)) t

-- the walk goes no further: this is the last level, or a bit bars the way
abbrev pub Stops : ℕ → ℕ → ℕ → Type 0
Stops level t bars = (level ≡ 1 → ⊥) → bit_and t bars ≡ 0 → ⊥

-- the rules' step ends at this entry, and the number is that of its end
pub record EndsAt (c : Control) (level at e s n : ℕ) : Type 0 where
  pub end : End
  pub ends : (below : Reach) → step c level at e (rights_of s) below (says c level e) ≡ end_at at end
  pub number : n ≡ pack_end end (accessed_in s)

pub record Ended (t s level bars n : ℕ) : Type 0 where
  pub there : (c : Control) (e at : ℕ) → Bars c bars → t ≡ turned e → EndsAt c level at e s n

-- from a level on, with what was lacking before: where the rules' walk ends
pub record Down (mem : Memory) (x level base seen bars n : ℕ) : Type 0 where
  pub finds : (c : Control) (a : ℕ) → Bars c bars → x ≡ slid level a
      → n ≡ pack_reach (accessed_in seen) (entry_at mem) (reach (entry_at mem) c a level base (rights_of seen))

-- ---- what an access does with the page
-- accessed, or accessed and dirty, as bits of an entry
abbrev pub bits_of : Bool → ℕ
bits_of true = 96
bits_of false = 32

-- an entry is marked so after it was read: of one part, and of memory
abbrev pub marked_in : Bool → ℕ → List ℕ → List ℕ
marked_in true at part = added_in 5 at (added_in 6 at part)
marked_in false at part = added_in 5 at part

pub record MarksIn (part part' : List ℕ) (at bits e : ℕ) : Type 0 where
  pub entry : e ≡ entry_in part at
  pub marked : (dirty : Bool) → bits ≡ bits_of dirty → part' ≡ marked_in dirty at part

abbrev pub marked_at : Bool → ℕ → Memory → Memory
marked_at dirty at mem = added 5 at (dirtied dirty at mem)

pub record Marks (mem mem' : Memory) (at bits e : ℕ) : Type 0 where
  pub entry : e ≡ entry_at mem at
  pub marked : (dirty : Bool) → bits ≡ bits_of dirty → mem' ≡ marked_at dirty at mem

-- a walk that ended at a page is made again, marking; memory may by then have marks that the entries it read had not, and leads the same way
abbrev pub LeadsAlike : (ℕ → ℕ) → Memory → Type 0
LeadsAlike rd mem = (at : ℕ) → at % 8 ≡ 0 → part 52 12 (rd at) ≡ part 52 12 (entry_at mem at)

pub record MarkedDown (mem mem' : Memory) (x level base last bits : ℕ) : Type 0 where
  pub marks : (rd : ℕ → ℕ) (c : Control) (a : ℕ) (r : Rights) (p : Leaf) (dirty : Bool) → LeadsAlike rd mem → 36 ≤ c.width → c.width ≤ 52 → level ≤ 4
      → x ≡ slid level a → (reach rd c a level base r).end ≡ reached p → p.level ≡ last → bits ≡ bits_of dirty
      → mem' ≡ accessed (reach rd c a level base r).path (dirtied dirty p.at mem)

-- what is found and written
pub record Did (c : Control) (k : Access) (w : Reach) (mem mem' : Memory) (n : ℕ) : Type 0 where
  pub number : n ≡ pack_found (judged c k w.end 0)
  pub memory : mem' ≡ marked c k w.end w.path mem

-- of a page, by its number
pub record Settled (mem mem' : Memory) (root a n need clear r : ℕ) : Type 0 where
  pub did : (c : Control) (k : Access) → Ready c mem → root ≡ c.root → need ≡ needed_of c.flags k → clear ≡ clear_of c.flags k → 2048 ≤ n
      → n ≡ pack_reach true (entry_at mem) (reach_in mem c a) → Did c k (reach_in mem c a) mem mem' r

-- ---- the whole walk, for whatever access has this number
pub record Walks (c : Control) (access a : ℕ) (mem mem' : Memory) (f : Found) : Type 0 where
  pub walks : ForEach c.flags access (λ k. ◌≡◌ {A = Walked} (record { found = f; memory = mem' }) (walk c k a mem))
