-- A fill of a set, in steps: which way is free, a slot's two words among a set's 64 bytes, and the fill as a whole.
use Rattle.std.specs.Prelude.{ℕ, ◌+◌, ◌*◌, ◌<◌, ◌≡◌, Bool, not, Option, Some, None, IfSome, List, ◌++◌, take, drop}
use Rattle.rules.specs.Bits.{bytes_of}
use Rattle.rules.specs.Image.{Image, is_held}
use Rattle.rules.specs.Sizes.{slots_of}
use Rattle.rules.specs.Buffer.{Hit, hit, miss, first, put}

abbrev pub is_free : Image → ℕ → Bool
is_free s i = not (is_held (s.slots i).tag)

-- a way's number, 0 to 3, as its slot
abbrev pub way_hit : ℕ → Option ℕ → Hit
way_hit set (Some way) = hit (4 * set + way)
way_hit set None = miss

-- the lowest free way of a set, if there is one
pub record IsLowest (s : Image) (set : ℕ) (way : Option ℕ) : Type 0 where
  pub right : first (is_free s) (slots_of set) ≡ way_hit set way
  pub low : IfSome way (λ w. w < 4)

-- a slot's two words are now in a set's 64 bytes
abbrev pub slot_put : List ℕ → ℕ → ℕ → ℕ → List ℕ
slot_put b way tag datum = take (way * 16) b ++ (bytes_of 8 tag ++ (bytes_of 8 datum ++ drop (way * 16 + 16) b))

-- the lowest free way, or the victim's, takes a tag and a datum
abbrev pub filled_at : ℕ → ℕ → ℕ → Image → Image
filled_at set tag datum s = put set (record { tag = tag; datum = datum }) s (first (is_free s) (slots_of set))
