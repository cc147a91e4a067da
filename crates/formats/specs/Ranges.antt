-- Ranges of bits as one number, with which an entry is tested by one `and`.
use Rattle.std.specs.Prelude.{ℕ, suc, ◌-◌, ◌^◌, List, [], ◌∷◌}
use Rattle.std.specs.Int.Bits.{bit_or}
use Rattle.rules.specs.Formats.{Range}

-- the number that has the bits of a range set and no others
abbrev pub ones_in : Range → ℕ
ones_in r = 2 ^ suc r.high - 2 ^ r.low

abbrev pub mask_of : List Range → ℕ
mask_of [] = 0
mask_of (r ∷ rs) = bit_or (ones_in r) (mask_of rs)
