-- The three page sizes: "The state image" and "The buffer" of document 01. A set and its ways are said once, for any size.
use Rattle.std.specs.Prelude.{ℕ, ◌+◌, ◌*◌, ◌/◌, ◌%◌, ◌^◌, cond, List, [], ◌∷◌, ltb, eqb}
use Rattle.rules.specs.declared.Size.{Size}

-- the lowest bit of an address that chooses an entry at a level: below it is the offset in a page of that level
abbrev pub shift : ℕ → ℕ
shift level = 3 + 9 * level

-- 4 KiB pages have the first 16 sets, 2 MiB pages the next 8, 1 GiB pages the last one. A large page's base leaves its low bits unused: from bit 13
-- up to the page's length they must be 0, as the row of such a page has it (`Formats`)
abbrev pub small : Size
small = record { level = 1; length = 0x1000; reserved = 13; sets = 16; first = 0 }

abbrev pub middle : Size
middle = record { level = 2; length = 0x200000; reserved = 21; sets = 8; first = 16 }

abbrev pub large : Size
large = record { level = 3; length = 0x40000000; reserved = 30; sets = 1; first = 24 }

-- there is no fourth
pub data Is : Size → Type 0 where
  is_small : Is small
  is_middle : Is middle
  is_large : Is large

-- the size of a page that a walk finds at a level
abbrev pub size_at : ℕ → Size
size_at level = cond (eqb level 1) small (cond (eqb level 2) middle large)

-- which page of a size an address lies in, counted over the 48 bits that are translated
abbrev pub page_number : Size → ℕ → ℕ
page_number z a = a % 2 ^ 48 / z.length

-- the one set in which that page can stand: pages go round the sets of their size. Sets are counted over all sizes
abbrev pub set_of : Size → ℕ → ℕ
set_of z a = z.first + page_number z a % z.sets

-- a set's slots are its four ways, and slots are counted over all sets
abbrev pub slots_of : ℕ → List ℕ
slots_of set = (4 * set) ∷ (4 * set + 1) ∷ (4 * set + 2) ∷ (4 * set + 3) ∷ []

-- those of the address's own set
abbrev pub ways : Size → ℕ → List ℕ
ways z a = slots_of (set_of z a)

-- the size of the pages that slot i holds
abbrev pub size_of : ℕ → Size
size_of i = cond (ltb (i / 4) middle.first) small (cond (ltb (i / 4) large.first) middle large)
