-- The state image: "The state image" of document 01, as a record of named parts, and as the 2,048 bytes that the host keeps.
use Rattle.std.specs.Prelude.{ℕ, zero, suc, ◌+◌, ◌-◌, ◌*◌, ◌/◌, ◌%◌, ◌^◌, ◌≤◌, ◌<◌, ◌≡◌, Bool, cond, List, [], ◌∷◌, ◌++◌, length, get_or, replicate}
use Rattle.rules.specs.Bits.{is_on, field, part, one, words_of, bytes_of_all}
use Rattle.rules.specs.declared.Control.{Control}
use Rattle.rules.specs.declared.Rights.{Rights}

-- a slot keeps its two words as they stand: the tag, then the data
pub record Slot : Type 0 where
  pub tag : ℕ
  pub datum : ℕ

-- the first four words by name, and the slots by their number, of which an image has 100
pub record Image : Type 0 where
  pub width : ℕ
  pub flags : ℕ
  pub cr3 : ℕ
  pub victims : ℕ
  pub slots : ℕ → Slot

-- ---- the flags: paging, write protect, global pages, PCIDs, no-execute, and what keeps the supervisor off user pages, its fetches and its other accesses, from bit 0 up
abbrev pub pg : ℕ → Bool
pg f = is_on 0 f

abbrev pub wp : ℕ → Bool
wp f = is_on 1 f

abbrev pub pge : ℕ → Bool
pge f = is_on 2 f

abbrev pub pcide : ℕ → Bool
pcide f = is_on 3 f

abbrev pub nxe : ℕ → Bool
nxe f = is_on 4 f

abbrev pub smep : ℕ → Bool
smep f = is_on 5 f

abbrev pub smap : ℕ → Bool
smap f = is_on 6 f

-- ---- CR3: its bits from 12 up to the width are where the top table stands; its low 12 bits are the current PCID, which is 0 while PCIDE is off
abbrev pub root : Image → ℕ
root s = part s.width 12 s.cr3

abbrev pub pcid : Image → ℕ
pcid s = cond (pcide s.flags) (field 12 0 s.cr3) 0

abbrev pub control : Image → Control
control s = record { width = s.width; flags = s.flags; root = root s; pcid = pcid s }

-- ---- the victims: two bits for each set, the first set's lowest
abbrev pub victim : ℕ → ℕ → ℕ
victim n v = v / 2 ^ (2 * n) % 4

-- set n's victim is now the next way, after the last the first
abbrev pub moved_on : ℕ → ℕ → ℕ
moved_on n v = v - victim n v * 2 ^ (2 * n) + (victim n v + 1) % 4 * 2 ^ (2 * n)

-- ---- the tag, from bit 0 up: held, global, twelve bits of PCID, 36 bits of page number
abbrev pub is_held : ℕ → Bool
is_held t = is_on 0 t

abbrev pub is_global : ℕ → Bool
is_global t = is_on 1 t

abbrev pub pcid_in : ℕ → ℕ
pcid_in t = field 14 2 t

abbrev pub page_in : ℕ → ℕ
page_in t = field 50 14 t

abbrev pub tag_of : Bool → ℕ → ℕ → ℕ
tag_of global p page = 1 + 2 * one global + 4 * p + 2 ^ 14 * page

-- ---- the data, from bit 0 up: the three rights and the dirty flag; from bit 12 up to 51 the page's base, where it stands
abbrev pub rights_in : ℕ → Rights
rights_in d = record { writable = is_on 0 d; user = is_on 1 d; executable = is_on 2 d }

abbrev pub is_dirty : ℕ → Bool
is_dirty d = is_on 3 d

abbrev pub datum_of : Rights → Bool → ℕ → ℕ
datum_of r dirty base = one r.writable + 2 * one r.user + 4 * one r.executable + 8 * one dirty + base

-- nothing is held here
abbrev pub none : Slot
none = record { tag = 0; datum = 0 }

-- right after a start: the width and the flags, and nothing else
abbrev pub started : ℕ → ℕ → Image
started w f = record { width = w; flags = f; cr3 = 0; victims = 0; slots = λ i. none }

-- ---- as 256 words, and as 2,048 bytes: the four named words, two words for each of the hundred slots, 52 words of zero
abbrev pub slot_words : ℕ → (ℕ → Slot) → List ℕ
slot_words zero f = []
slot_words (suc n) f = (f 0).tag ∷ (f 0).datum ∷ slot_words n (λ i. f (suc i))

abbrev pub words_in : Image → List ℕ
words_in s = s.width ∷ s.flags ∷ s.cr3 ∷ s.victims ∷ (slot_words 100 s.slots ++ replicate 52 0)

abbrev pub from_words : List ℕ → Image
from_words ws =
    record {
      width = get_or ws 0 0;
      flags = get_or ws 1 0;
      cr3 = get_or ws 2 0;
      victims = get_or ws 3 0;
      slots = λ i. record { tag = get_or ws (4 + 2 * i) 0; datum = get_or ws (5 + 2 * i) 0 };
    }

unfoldable pub encode : Image → List ℕ
encode s = bytes_of_all (words_in s)

unfoldable pub decode : List ℕ → Image
decode b = from_words (words_of 256 b)

-- ---- what a function asks of the bytes of an image that it is lent
-- the words fit, and there are no slots but the hundred
pub record Sound (s : Image) : Type 0 where
  pub width : s.width < 2 ^ 64
  pub flags : s.flags < 2 ^ 64
  pub cr3 : s.cr3 < 2 ^ 64
  pub victims : s.victims < 2 ^ 64
  pub tags : (i : ℕ) → (s.slots i).tag < 2 ^ 64
  pub datums : (i : ℕ) → (s.slots i).datum < 2 ^ 64
  pub beyond : (i : ℕ) → 100 ≤ i → s.slots i ≡ none

-- there are 2,048 bytes, the parts that they say are sound, and they are the bytes of those parts
pub record IsImage (b : List ℕ) : Type 0 where
  pub size : length b ≡ 2048
  pub sound : Sound (decode b)
  pub says : encode (decode b) ≡ b
