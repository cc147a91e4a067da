-- The parts of a text by index: where one ends, and of a line's field which number it is.
use Rattle.std.specs.Prelude.{ℕ, suc, Option, Some, None, ◌+◌, cond, ◌&&◌, List, [], ◌∷◌, leb, ltb, eqb, take, drop}
use Rattle.trace.specs.Text.{tab}
use Rattle.trace.specs.Numbers.{digit_of, number_of}
use Rattle.reading.specs.declared.Number.{Number}

-- how many bytes stand before the first separator, or the end
unfoldable pub width : ℕ → List ℕ → ℕ
width s [] = 0
width s (b ∷ bs) = cond (eqb b s) 0 (suc (width s bs))

-- the part that starts at an index
abbrev pub part_at : ℕ → List ℕ → ℕ → List ℕ
part_at s t from = take (width s (drop from t)) (drop from t)

-- where it ends: at its separator, or at the text's end
abbrev pub end_at : ℕ → List ℕ → ℕ → ℕ
end_at s t from = from + width s (drop from t)

-- where the next one starts: after the separator, or past the end by one
abbrev pub next_at : ℕ → List ℕ → ℕ → ℕ
next_at s t from = end_at s t from + 1

-- ---- fields
-- a byte's digit, if it is one
abbrev pub digit_in : ℕ → Option ℕ
digit_in b = cond (ltb (digit_of b) 16) (Some (digit_of b)) None

abbrev pub found : Option ℕ → ℕ → Option Number
found (Some n) next = Some (record { value = n; next = next })
found None next = None

abbrev pub field_at : List ℕ → ℕ → Option Number
field_at line from = found (number_of (part_at tab line from)) (next_at tab line from)

-- so many digits, which make a value
abbrev pub ended : ℕ → ℕ → ℕ → Option Number
ended value n next = cond (ltb 0 n && leb n 16) (Some (record { value = value; next = next })) None
