-- The fault journal of request W-202: as a record of named parts, and as the 2,624 bytes that the host keeps.
use Rattle.std.specs.Prelude.{ℕ, zero, suc, ◌+◌, ◌-◌, ◌*◌, ◌^◌, ◌≤◌, ◌≡◌, Bool, ◌&&◌, List, [], ◌∷◌, ◌++◌, eqb, length, get_or}
use Rattle.rules.specs.Bits.{field, AreWords, words_of, bytes_of_all}
-- a fault, by what makes two reports of it equal: the number of the page, the fault's code, the root of the tables
pub use Rattle.journal.specs.declared.Fault.{Fault}

-- as it is reported: the page's number is bits 56 to 12 of the address; code and root are taken as they are given
abbrev pub fault_of : ℕ → ℕ → ℕ → Fault
fault_of address code root = record { page = field 57 12 address; code = code; root = root }

abbrev pub is_same : Fault → Fault → Bool
is_same f g = eqb f.page g.page && eqb f.code g.code && eqb f.root g.root

-- where all counts stop
abbrev pub limit : ℕ
limit = 2 ^ 32 - 1

-- a fault, the number of its first report, and how often it was reported again
pub record Record : Type 0 where
  pub fault : Fault
  pub first : ℕ
  pub repeats : ℕ

-- the five words that no sentence gives a meaning, by their numbers
pub record Spare : Type 0 where
  pub three : ℕ
  pub four : ℕ
  pub five : ℕ
  pub six : ℕ
  pub seven : ℕ

-- the first three words by name, the five after them, and the records by their number, of which a journal has 64
pub record Journal : Type 0 where
  pub held : ℕ
  pub lost : ℕ
  pub reports : ℕ
  pub spare : Spare
  pub records : ℕ → Record

-- zeros
abbrev pub unused : Spare
unused = record { three = 0; four = 0; five = 0; six = 0; seven = 0 }

abbrev pub blank : Record
blank = record { fault = record { page = 0; code = 0; root = 0 }; first = 0; repeats = 0 }

-- ---- as 328 words, and as 2,624 bytes: eight words, then five for each of the 64 records
abbrev pub five_words : Record → List ℕ
five_words t = t.fault.page ∷ t.fault.code ∷ t.fault.root ∷ t.first ∷ t.repeats ∷ []

abbrev pub record_words : ℕ → (ℕ → Record) → List ℕ
record_words zero f = []
record_words (suc n) f = five_words (f 0) ++ record_words n (λ i. f (suc i))

abbrev pub words_in : Journal → List ℕ
words_in j =
    j.held ∷ j.lost ∷ j.reports ∷ j.spare.three ∷ j.spare.four ∷ j.spare.five ∷ j.spare.six ∷ j.spare.seven ∷ record_words 64 j.records

abbrev pub record_in : List ℕ → ℕ → Record
record_in ws i =
    record {
      fault = record { page = get_or ws (8 + 5 * i) 0; code = get_or ws (9 + 5 * i) 0; root = get_or ws (10 + 5 * i) 0 };
      first = get_or ws (11 + 5 * i) 0;
      repeats = get_or ws (12 + 5 * i) 0;
    }

abbrev pub from_words : List ℕ → Journal
from_words ws =
    record {
      held = get_or ws 0 0;
      lost = get_or ws 1 0;
      reports = get_or ws 2 0;
      spare = record { three = get_or ws 3 0; four = get_or ws 4 0; five = get_or ws 5 0; six = get_or ws 6 0; seven = get_or ws 7 0 };
      records = record_in ws;
    }

unfoldable pub encode : Journal → List ℕ
encode j = bytes_of_all (words_in j)

unfoldable pub decode : List ℕ → Journal
decode b = from_words (words_of 328 b)

-- ---- what a function asks of the bytes of a journal that it is lent
-- the words fit, and there are no records but the 64
pub record Sound (j : Journal) : Type 0 where
  pub words : AreWords (words_in j)
  pub beyond : (i : ℕ) → 64 ≤ i → j.records i ≡ blank

-- there are 2,624 bytes, the parts that they say are sound, and they are the bytes of those parts
pub record IsJournal (b : List ℕ) : Type 0 where
  pub size : length b ≡ 2624
  pub sound : Sound (decode b)
  pub says : encode (decode b) ≡ b
