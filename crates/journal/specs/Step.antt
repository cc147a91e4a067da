-- The step: what one report does to a journal, whatever it holds.
use Rattle.std.specs.Prelude.{ℕ, zero, suc, ◌+◌, min, cond, List, [], ◌∷◌, ltb, eqb}
use Rattle.rules.specs.Buffer.{Hit, hit, miss, first}
use Rattle.journal.specs.Journal.{Fault, is_same, limit, Record, Journal}

-- a count with one more
abbrev pub more : ℕ → ℕ
more n = min (n + 1) limit

-- ---- the first held record of this fault
-- the n numbers from i on
abbrev pub from : ℕ → ℕ → List ℕ
from i zero = []
from i (suc n) = i ∷ from (suc i) n

abbrev pub find : Fault → Journal → Hit
find f j = first (λ i. is_same (j.records i).fault f) (from 0 j.held)

-- ---- what is written
-- every report is counted
abbrev pub counted : Journal → Journal
counted j = record { held = j.held; lost = j.lost; reports = more j.reports; spare = j.spare; records = j.records }

-- record i is now this one
abbrev pub stored : ℕ → Record → Journal → Journal
stored i t j =
    record {
      held = j.held;
      lost = j.lost;
      reports = j.reports;
      spare = j.spare;
      records = λ k. cond (eqb k i) t (j.records k);
    }

-- a record whose fault came again
abbrev pub repeated : Record → Record
repeated t = record { fault = t.fault; first = t.first; repeats = more t.repeats }

abbrev pub again : ℕ → Journal → Journal
again i j = stored i (repeated (j.records i)) j

-- one record more is held
abbrev pub with_one_more : Journal → Journal
with_one_more j = record { held = j.held + 1; lost = j.lost; reports = j.reports; spare = j.spare; records = j.records }

-- a new fault takes the next place; its number is that of its report, which is counted by now
abbrev pub kept : Fault → Journal → Journal
kept f j = stored j.held (record { fault = f; first = j.reports; repeats = 0 }) (with_one_more j)

-- there is no place left for it
abbrev pub missed : Journal → Journal
missed j = record { held = j.held; lost = more j.lost; reports = j.reports; spare = j.spare; records = j.records }

abbrev pub placed : Fault → Journal → Hit → Journal
placed f j (hit i) = again i j
placed f j miss = cond (ltb j.held 64) (kept f j) (missed j)

abbrev pub report : Fault → Journal → Journal
report f j = placed f (counted j) (find f j)
