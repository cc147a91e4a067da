-- What the parts of a line's code give.
use Rattle.std.specs.Prelude.{ℕ, ◌≤◌, ◌≡◌, List, take}
use Rattle.trace.specs.Numbers.{digits, trimmed}
use Rattle.printing.specs.declared.Word.{Word}

-- n digits are those of x without leading zeros
pub record Counts (x n : ℕ) : Type 0 where
  pub few : n ≤ 16
  pub same : trimmed (digits 16 x) ≡ digits n x

-- a word's bytes that count are a text
pub record Holds (bytes : List ℕ) (w : Word) : Type 0 where
  pub few : w.length ≤ 8
  pub text : take w.length w.text ≡ bytes
