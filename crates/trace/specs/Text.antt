-- Text: what stands between separators. A trace's lines are parted by line feeds, a line's fields by tabs.
use Rattle.std.specs.Prelude.{ℕ, cond, List, [], ◌∷◌, ◌==◌}

abbrev pub tab : ℕ
tab = 9

abbrev pub feed : ℕ
feed = 10

-- a byte before the first part
abbrev pub onto : ℕ → List (List ℕ) → List (List ℕ)
onto b [] = (b ∷ []) ∷ []
onto b (p ∷ ps) = (b ∷ p) ∷ ps

-- the parts of a text between separators s; e is what stands for nothing after the last of them
unfoldable pub parted : ℕ → List (List ℕ) → List ℕ → List (List ℕ)
parted s e [] = e
parted s e (b ∷ bs) = cond (b == s) ([] ∷ parted s e bs) (onto b (parted s e bs))

-- the last line may lack its end, and nothing after the last line end is no line; an empty line is one
abbrev pub lines_of : List ℕ → List (List ℕ)
lines_of = parted feed []

-- nothing after a tab is an empty field
abbrev pub fields_of : List ℕ → List (List ℕ)
fields_of = parted tab ([] ∷ [])
