-- The two calls on the host's bytes: what each returns and leaves, for all inputs, refused ones too.
use Rattle.std.specs.Prelude.{ℕ, zero, suc, ◌≡◌, Bool, false, cond, ◌||◌, not, List, length, replicate, ltb, eqb, Result, Ok, Err}
use Rattle.journal.specs.Journal.{fault_of, limit, Record, encode, decode}
use Rattle.journal.specs.Step.{report}
use Rattle.journal.specs.declared.Unfit.{Unfit}

-- the number returned, and the journal's bytes
pub record Left : Type 0 where
  pub number : ℕ
  pub journal : List ℕ

-- ---- refusal 9
abbrev pub is_long : List ℕ → Bool
is_long b = eqb (length b) 2624

-- one of the first n records has more repeats than can be counted
abbrev pub is_over : ℕ → (ℕ → Record) → Bool
is_over zero f = false
is_over (suc n) f = is_over n f || ltb limit (f n).repeats

-- no journal to report to: its length, a count, or the repeats of a record that is held
abbrev pub is_unfit : List ℕ → Bool
is_unfit b =
    not (is_long b)
    || ltb 64 (decode b).held
    || ltb limit (decode b).lost
    || ltb limit (decode b).reports
    || is_over (decode b).held (decode b).records

abbrev pub refused : List ℕ → Left
refused b = record { number = 9; journal = b }

-- ---- the calls
abbrev pub cleared : List ℕ → Left
cleared b = cond (is_long b) (record { number = 0; journal = replicate 2624 0 }) (refused b)

abbrev pub reported : ℕ → ℕ → ℕ → List ℕ → Left
reported address code root b =
    cond (is_unfit b) (refused b) (record { number = 0; journal = encode (report (fault_of address code root) (decode b)) })

-- ---- what the functions promise
-- the number of what is returned: that of the refusal, or 0
abbrev pub number_of : Result (Unit {0}) Unfit → ℕ
number_of (Ok _) = 0
number_of (Err _) = 9

pub record Clears (b b' : List ℕ) (n : ℕ) : Type 0 where
  pub left : ◌≡◌ {A = Left} (record { number = n; journal = b' }) (cleared b)

pub record Reports (address code root : ℕ) (b b' : List ℕ) (n : ℕ) : Type 0 where
  pub left : ◌≡◌ {A = Left} (record { number = n; journal = b' }) (reported address code root b)
