-- Looking up in the image's bytes: where a page is held, and what the code finds on the way.
use Rattle.std.specs.Prelude.{Option, Some, None, ℕ, ◌/◌, ◌%◌, ◌<◌, ◌≡◌, Bool, ◌&&◌, ◌||◌, List, ◌++◌, eqb}
use Rattle.rules.specs.Sizes.{small, middle, ways, size_of}
use Rattle.rules.specs.Image.{decode, is_held, is_global, pcid_in, page_in}
use Rattle.rules.specs.Buffer.{contains, Hit, hit, miss, first, all_ways, find}
use Rattle.sets.specs.Ways.{tag_in}
use Rattle.buffer.specs.declared.look.Place.{Place}
use Rattle.buffer.specs.declared.look.Start.{Start}
use Rattle.buffer.specs.declared.look.Start.TheVariants.{Small, Middle, Large, Nowhere}

-- ---- a place
abbrev pub place : ℕ → ℕ → Option Place
place at l = Some (record { at = at; size = l })

abbrev pub hit_of : Option Place → Hit
hit_of (Some p) = hit (p.at / 16)
hit_of None = miss

-- it is where a slot begins, the slot is one of the hundred, and the length is that of its pages
abbrev pub Right : Option Place → Type 0
Right (Some p) = (p.at % 16 ≡ 0) × ((p.at / 16 < 100) × (p.size ≡ (size_of (p.at / 16)).length))
Right None = Unit

pub record Looks (b : List ℕ) (a : ℕ) (r : Option Place) : Type 0 where
  pub first : hit_of r ≡ find (decode b) a
  pub right : Right r

-- ---- a match is a page that is held and is one's own
-- held, and of the page of that number
abbrev pub holds_page : ℕ → ℕ → Bool
holds_page n t = is_held t && eqb (page_in t) n

-- global, or of PCID p
abbrev pub is_of : ℕ → ℕ → Bool
is_of p t = is_global t || eqb (pcid_in t) p

-- slot i holds the address's page, whoever's it is
abbrev pub holds : List ℕ → ℕ → ℕ → Bool
holds b a i = is_held (tag_in b i) && contains a i (tag_in b i)

-- the first of some slots that holds the page
pub record FirstHeld (b : List ℕ) (a : ℕ) (is : List ℕ) (r : Option Place) : Type 0 where
  pub held : hit_of r ≡ first (holds b a) is
  pub right : Right r

-- where looking up begins: what is known of the sizes before it, or of all
abbrev pub Begins : List ℕ → ℕ → Start → Type 0
Begins b a (Small at) = FirstHeld b a (all_ways a) (place at small.length)
Begins b a Middle = FirstHeld b a (ways small a) None
Begins b a Large = FirstHeld b a (ways small a ++ ways middle a) None
Begins b a Nowhere = FirstHeld b a (all_ways a) None
