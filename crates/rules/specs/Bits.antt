-- Bits and words. A number's bits are counted from 0; where document 01 writes "bits h..l", the definitions here take h + 1, the first bit above, and l.
-- A number of several bytes stands with its lowest byte first.
use Rattle.std.specs.Prelude.{ℕ, zero, suc, ◌+◌, ◌-◌, ◌*◌, ◌/◌, ◌%◌, ◌^◌, ◌<◌, Bool, true, false, not, List, [], ◌∷◌, ◌++◌, eqb, get_or, take, drop}

-- bit k of x: 0 or 1
abbrev pub bit : ℕ → ℕ → ℕ
bit k x = x / 2 ^ k % 2

-- bit k of x is set
abbrev pub is_on : ℕ → ℕ → Bool
is_on k x = eqb (bit k x) 1

-- the number that bits h - 1 down to l of x make
abbrev pub field : ℕ → ℕ → ℕ → ℕ
field h l x = x / 2 ^ l % 2 ^ (h - l)

-- bits h - 1 down to l of x, where they stand, and no others
abbrev pub part : ℕ → ℕ → ℕ → ℕ
part h l x = field h l x * 2 ^ l

-- one of bits h - 1 down to l of x is set
abbrev pub any_on : ℕ → ℕ → ℕ → Bool
any_on h l x = not (eqb (part h l x) 0)

-- x with bit k set
abbrev pub with_bit : ℕ → ℕ → ℕ
with_bit k x = x + (1 - bit k x) * 2 ^ k

-- a flag as a bit
abbrev pub one : Bool → ℕ
one true = 1
one false = 0

-- each element is a byte, or a word of 64 bits
abbrev pub AreBytes : List ℕ → Type 0
AreBytes xs = (i : ℕ) → get_or xs i 0 < 256

abbrev pub AreWords : List ℕ → Type 0
AreWords xs = (i : ℕ) → get_or xs i 0 < 2 ^ 64

-- the number that bytes make, lowest first
abbrev pub word : List ℕ → ℕ
word [] = 0
word (x ∷ xs) = x + 256 * word xs

-- the word of 64 bits at a place
abbrev pub word_at : List ℕ → ℕ → ℕ
word_at b at = word (take 8 (drop at b))

-- the n lowest bytes of a number, lowest first
abbrev pub bytes_of : ℕ → ℕ → List ℕ
bytes_of zero x = []
bytes_of (suc n) x = x % 256 ∷ bytes_of n (x / 256)

-- the word of 64 bits at a place is now x
abbrev pub word_put : List ℕ → ℕ → ℕ → List ℕ
word_put b at x = take at b ++ (bytes_of 8 x ++ drop (at + 8) b)

-- the first n words of 64 bits that bytes make
abbrev pub words_of : ℕ → List ℕ → List ℕ
words_of zero b = []
words_of (suc n) b = word_at b 0 ∷ words_of n (drop 8 b)

-- the bytes of words of 64 bits
abbrev pub bytes_of_all : List ℕ → List ℕ
bytes_of_all [] = []
bytes_of_all (w ∷ ws) = bytes_of 8 w ++ bytes_of_all ws
