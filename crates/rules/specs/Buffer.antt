-- The buffer: "The buffer" of document 01.
use Rattle.std.specs.Prelude.{ℕ, ◌+◌, ◌*◌, ◌/◌, ◌%◌, Bool, cond, ◌&&◌, ◌||◌, not, List, [], ◌∷◌, ◌++◌, eqb}
use Rattle.rules.specs.Bits.{part}
use Rattle.rules.specs.Sizes.{shift, small, middle, large, size_at, page_number, set_of, ways, size_of}
use Rattle.rules.specs.Image.{Slot, Image, none, pge, pcid, victim, moved_on, is_held, is_global, pcid_in, page_in, tag_of, rights_in, is_dirty, datum_of}
use Rattle.rules.specs.Entries.{allows}
use Rattle.rules.specs.declared.Size.{Size}
use Rattle.rules.specs.declared.Control.{Control}
use Rattle.rules.specs.declared.Access.{Access}
use Rattle.rules.specs.declared.Rights.{Rights}
use Rattle.rules.specs.declared.Found.{Found}
use Rattle.rules.specs.declared.Found.TheVariants.{Page, Fault}

-- ---- which slots: a test goes by a slot's number and its tag
-- slot i is one in which the address's page of that size can stand, and its tag names that page
abbrev pub contains : ℕ → ℕ → ℕ → Bool
contains a i t = eqb (i / 4) (set_of (size_of i) a) && eqb (page_in t) (page_number (size_of i) a)

-- it is also held, and global or of PCID p
abbrev pub matches : ℕ → ℕ → ℕ → ℕ → Bool
matches p a i t = is_held t && contains a i t && (is_global t || eqb (pcid_in t) p)

-- of PCID p, and not global
abbrev pub of_pcid : ℕ → ℕ → Bool
of_pcid p t = eqb (pcid_in t) p && not (is_global t)

-- ---- looking up: small pages first and the largest last, and in a set the ways in their order
pub data Hit : Type 0 where
  hit : ℕ → Hit
  miss : Hit

abbrev pub first : (ℕ → Bool) → List ℕ → Hit
first p [] = miss
first p (i ∷ is) = cond (p i) (hit i) (first p is)

abbrev pub all_ways : ℕ → List ℕ
all_ways a = ways small a ++ (ways middle a ++ ways large a)

abbrev pub find : Image → ℕ → Hit
find s a = first (λ i. matches (pcid s) a i (s.slots i).tag) (all_ways a)

-- a held page serves an access that its rights allow under the flags of now; but a write only once the page is dirty
abbrev pub serves : Control → Access → ℕ → Bool
serves c k d = allows c k (rights_in d) && (not k.write || is_dirty d)

-- the page's base out of the data word, and the offset out of the address
abbrev pub hit_address : Size → ℕ → ℕ → ℕ
hit_address z d a = part 52 (shift z.level) d + a % z.length

-- ---- dropping: a slot that the test names is emptied, any other stays as it is
abbrev pub dropped_if : (ℕ → ℕ → Bool) → ℕ → Slot → Slot
dropped_if p i t = cond (p i t.tag) none t

abbrev pub dropped : (ℕ → ℕ → Bool) → Image → Image
dropped p s =
    record {
      width = s.width;
      flags = s.flags;
      cr3 = s.cr3;
      victims = s.victims;
      slots = λ i. dropped_if p i (s.slots i);
    }

-- ---- filling
abbrev pub stored : ℕ → Slot → Image → Image
stored i t s =
    record {
      width = s.width;
      flags = s.flags;
      cr3 = s.cr3;
      victims = s.victims;
      slots = λ j. cond (eqb j i) t (s.slots j);
    }

abbrev pub with_victims : ℕ → Image → Image
with_victims v s = record { width = s.width; flags = s.flags; cr3 = s.cr3; victims = v; slots = s.slots }

-- into the first way of set n that is not held; if all are, over the victim, and the next way is the victim from then on
abbrev pub put : ℕ → Slot → Image → Hit → Image
put n t s (hit i) = stored i t s
put n t s miss = stored (4 * n + victim n s.victims) t (with_victims (moved_on n s.victims) s)

-- global if PGE is on and its entry says so; of the current PCID; dirty if its entry is so by now
abbrev pub slot_for : Image → ℕ → Size → ℕ → Rights → Bool → Bool → Slot
slot_for s a z base r global dirty =
    record { tag = tag_of (pge s.flags && global) (pcid s) (page_number z a); datum = datum_of r dirty base }

-- a walk that finds the page leaves it in the buffer
abbrev pub filled : Image → ℕ → Found → Image
filled s a (Page base level r global dirty n) =
    put (set_of (size_at level) a) (slot_for s a (size_at level) base r global dirty) s
    (first (λ i. not (is_held (s.slots i).tag)) (ways (size_at level) a))
filled s a (Fault cause level n) = s
