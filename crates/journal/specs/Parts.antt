-- What the functions below the two calls ask and promise.
use Rattle.std.specs.Prelude.{ℕ, ◌≤◌, ◌<◌, ◌≡◌, true, false, List, Option, Some, None}
use Rattle.journal.specs.Journal.{Fault, is_same, Journal, decode, IsJournal}

-- a journal that can be reported to
pub record Fit (b : List ℕ) : Type 0 where
  pub journal : IsJournal b
  pub room : (decode b).held ≤ 64

-- record n is the first held one of this fault
pub record IsFirst (f : Fault) (j : Journal) (n : ℕ) : Type 0 where
  pub held : n < j.held
  pub passed : (k : ℕ) → k < n → is_same (j.records k).fault f ≡ false
  pub there : is_same (j.records n).fault f ≡ true

-- no held record is of this fault
pub record IsNew (f : Fault) (j : Journal) : Type 0 where
  pub passed : (k : ℕ) → k < j.held → is_same (j.records k).fault f ≡ false

-- what looking for a fault finds
abbrev pub Finds : Fault → Journal → Option ℕ → Type 0
Finds f j (Some n) = IsFirst f j n
Finds f j None = IsNew f j
