-- What is written into lent bytes.
use Rattle.std.specs.Prelude.{ℕ, ◌+◌, ◌≡◌, List, ◌++◌, length, take}

-- bytes stand in lent room from a place on, what stood before them stays, and r is the place after them; that the room keeps its length,
-- a caller knows of every slice
pub record Puts (out out' : List ℕ) (at : ℕ) (bytes : List ℕ) (r : ℕ) : Type 0 where
  pub place : r ≡ at + length bytes
  pub text : take r out' ≡ take at out ++ bytes
