-- The reserved bits: "The walk" of document 01, a row for each of the manual's tables of entry formats, in its order. Ranges are written as there, bits h..l as h ‥ l.
use Rattle.std.specs.Prelude.{ℕ, suc, Bool, true, false, cond, ◌&&◌, ◌||◌, not, List, [], ◌∷◌, eqb}
use Rattle.rules.specs.Bits.{any_on}

-- bits from high down to low; where high stands below low there are none
infix 80 ◌‥◌
pub record Range : Type 0 where
  pub high : ℕ
  pub low : ℕ

abbrev pub ◌‥◌ : ℕ → ℕ → Range
◌‥◌ h l = record { high = h; low = l }

-- an entry is of a level, and maps a page or leads to a table; the row has its reserved bits
pub record Row : Type 0 where
  pub level : ℕ
  pub page : Bool
  pub ranges : List Range

abbrev pub page_at : ℕ → List Range → Row
page_at n rs = record { level = n; page = true; ranges = rs }

abbrev pub table_at : ℕ → List Range → Row
table_at n rs = record { level = n; page = false; ranges = rs }

-- bit 63, XD, is reserved while NXE is off
abbrev pub xd : Bool → List Range
xd true = []
xd false = 63 ‥ 63 ∷ []

-- by the physical width M and whether NXE is on. An entry of level 4 always leads to a table, one of level 1 always maps a page
abbrev pub rows : ℕ → Bool → List Row
rows M nxe =
    table_at 4 (7 ‥ 7 ∷ 51 ‥ M ∷ xd nxe)
    ∷ page_at 3 (29 ‥ 13 ∷ 51 ‥ M ∷ xd nxe)
    ∷ table_at 3 (51 ‥ M ∷ xd nxe)
    ∷ page_at 2 (20 ‥ 13 ∷ 51 ‥ M ∷ xd nxe)
    ∷ table_at 2 (51 ‥ M ∷ xd nxe)
    ∷ page_at 1 (51 ‥ M ∷ xd nxe)
    ∷ []

-- the ranges of an entry: those of the row that names its level and kind
abbrev pub ranges_of : List Row → ℕ → Bool → List Range
ranges_of [] level page = []
ranges_of (r ∷ rs) level page = cond (eqb level r.level && cond r.page page (not page)) r.ranges (ranges_of rs level page)

-- a bit of one of the ranges is set
abbrev pub any_in : List Range → ℕ → Bool
any_in [] e = false
any_in (r ∷ rs) e = any_on (suc r.high) r.low e || any_in rs e
