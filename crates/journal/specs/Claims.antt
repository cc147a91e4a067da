-- What is claimed of a journal over time: after a clear and any reports its bytes are what the whole history says.
use Rattle.std.specs.Prelude.{ℕ, ◌^◌, ◌<◌, ◌≡◌, cond, List, [], ◌∷◌, length, eqb}
use Rattle.journal.specs.Journal.{Fault, fault_of, encode}
use Rattle.journal.specs.History.{history}
use Rattle.journal.specs.Calls.{cleared, reported}

-- a report as the host makes it, its numbers of 64 bits, and the length of the bytes that it lends for the journal
pub record Report : Type 0 where
  pub address : ℕ
  pub code : ℕ
  pub root : ℕ
  pub lent : ℕ
  pub code_fits : code < 2 ^ 64
  pub root_fits : root < 2 ^ 64

-- those that lend 2,624 bytes, by their faults
abbrev pub faults : List Report → List Fault
faults [] = []
faults (q ∷ qs) = cond (eqb q.lent 2624) (fault_of q.address q.code q.root ∷ faults qs) (faults qs)

-- the journal's bytes after each of them in turn; one that lends another number of bytes is refused, and leaves all bytes as they were
abbrev pub after : List ℕ → List Report → List ℕ
after b [] = b
after b (q ∷ qs) = after (cond (eqb q.lent 2624) (reported q.address q.code q.root b).journal b) qs

-- the bytes are the history's; and the next report on them is not refused
pub record Says (b : List ℕ) (qs : List Report) : Type 0 where
  pub bytes : after (cleared b).journal qs ≡ encode (history (faults qs))
  pub taken : (address code root : ℕ) → (reported address code root (after (cleared b).journal qs)).number ≡ 0

abbrev pub Whole : Type 0
Whole = (b : List ℕ) → length b ≡ 2624 → (qs : List Report) → Says b qs
