-- Numbers in hex digits, as a trace has them and as they are printed.
use Rattle.std.specs.Prelude.{ℕ, zero, suc, Option, Some, None, ◌+◌, ◌*◌, ◌/◌, ◌%◌, ◌^◌, cond, ◌&&◌, ◌||◌, List, [], ◌∷◌, map, length, nat_le, nat_lt}

-- ---- read: 1 to 16 digits, of either case
-- a byte's digit: 0 to 9, A to F, a to f; 16 stands for what is no digit
abbrev pub digit_of : ℕ → ℕ
digit_of b =
    cond (nat_le 48 b && nat_le b 57) (b % 16)
    (cond (nat_le 65 b && nat_le b 70 || nat_le 97 b && nat_le b 102) (b % 16 + 9) 16)

-- the number that digits make after a number; none where a byte is no digit
unfoldable pub value_of : List ℕ → ℕ → Option ℕ
value_of [] n = Some n
value_of (b ∷ bs) n = cond (nat_lt (digit_of b) 16) (value_of bs (n * 16 + digit_of b)) None

abbrev pub number_of : List ℕ → Option ℕ
number_of bs = cond (nat_lt 0 (length bs) && nat_le (length bs) 16) (value_of bs 0) None

-- ---- printed: in lower case, without leading zeros, and 0 as one digit
-- the n lowest digits of a number, highest first
unfoldable pub digits : ℕ → ℕ → List ℕ
digits zero x = []
digits (suc n) x = x / 16 ^ n % 16 ∷ digits n x

unfoldable pub trimmed : List ℕ → List ℕ
trimmed [] = []
trimmed (d ∷ []) = d ∷ []
trimmed (zero ∷ e ∷ ds) = trimmed (e ∷ ds)
trimmed (suc d ∷ e ∷ ds) = suc d ∷ e ∷ ds

-- a digit's byte: 0 to 9, a to f
abbrev pub byte_of : ℕ → ℕ
byte_of d = cond (nat_lt d 10) (48 + d) (87 + d)

abbrev pub hex_of : ℕ → List ℕ
hex_of x = map byte_of (trimmed (digits 16 x))
