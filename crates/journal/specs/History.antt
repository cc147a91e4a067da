-- The whole history: what the journal is to say of all the reports since the clear, the first of them first. No step is made here, and none is named; a
-- report is its fault.
use Rattle.std.specs.Prelude.{ℕ, ◌+◌, ◌-◌, min, Bool, false, cond, ◌||◌, List, [], ◌∷◌, map, length, get_or, take}
use Rattle.journal.specs.Journal.{Fault, is_same, limit, Record, Journal, unused, blank}

-- a count stops
abbrev pub stopped : ℕ → ℕ
stopped n = min n limit

-- ---- faults in a list
-- this one is there
abbrev pub has : Fault → List Fault → Bool
has f [] = false
has f (x ∷ xs) = is_same x f || has f xs

-- all but this one
abbrev pub without : Fault → List Fault → List Fault
without f [] = []
without f (x ∷ xs) = cond (is_same x f) (without f xs) (x ∷ without f xs)

-- each fault once, in the order of their first reports
abbrev pub distinct : List Fault → List Fault
distinct [] = []
distinct (x ∷ xs) = x ∷ without x (distinct xs)

-- the reports before the first one of this fault
abbrev pub before : Fault → List Fault → ℕ
before f [] = 0
before f (x ∷ xs) = cond (is_same x f) 0 (before f xs + 1)

-- how many reports are of this fault
abbrev pub times : Fault → List Fault → ℕ
times f [] = 0
times f (x ∷ xs) = cond (is_same x f) 1 0 + times f xs

-- how many reports are of a fault that is not among these
abbrev pub others : List Fault → List Fault → ℕ
others fs [] = 0
others fs (x ∷ xs) = cond (has x fs) 0 1 + others fs xs

-- ---- the journal
-- the faults that have a record: the first 64
abbrev pub recorded : List Fault → List Fault
recorded xs = take 64 (distinct xs)

-- the first report's number, counted from 1, and the reports after it
abbrev pub record_of : List Fault → Fault → Record
record_of xs f = record { fault = f; first = stopped (before f xs + 1); repeats = stopped (times f xs - 1) }

abbrev pub history : List Fault → Journal
history xs =
    record {
      held = length (recorded xs);
      lost = stopped (others (recorded xs) xs);
      reports = stopped (length xs);
      spare = unused;
      records = λ i. get_or (map (record_of xs) (recorded xs)) i blank;
    }
