-- The tags of slots in the image's bytes, and the compare of a tag under a mask.
use Rattle.std.specs.Prelude.{ℕ, Bool, false, ◌||◌, List, [], ◌∷◌, eqb}
use Rattle.std.specs.Int.Bits.{bit_and}
use Rattle.rules.specs.Image.{decode, is_held}

abbrev pub tag_in : List ℕ → ℕ → ℕ
tag_in b i = ((decode b).slots i).tag

-- one of some slots is held
abbrev pub any_held : List ℕ → List ℕ → Bool
any_held b [] = false
any_held b (i ∷ is) = is_held (tag_in b i) || any_held b is

-- a tag's bits under a mask are those wanted
abbrev pub is_masked : ℕ → ℕ → ℕ → Bool
is_masked mask want t = eqb (bit_and t mask) want
