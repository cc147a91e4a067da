-- Cases that are shown by computation, on bytes and through the calls alone: a journal made by hand, a report, what is returned, and every byte that is
-- left. All stand under one claim, which is shown by computing both sides.
use Prim.Native.Nat.{ℕ, ◌+◌, ◌-◌, ◌^◌}
use mathlib.Core.Path.{◌≡◌, refl}
use mathlib.Core.List.{List, [], ◌∷◌, ◌++◌, map}
use lib.ListN.{length, replicate}
use Rattle.rules.specs.Bits.{words_of, bytes_of_all}
use Rattle.journal.specs.Journal.{Fault, Journal, encode, decode}
use Rattle.journal.specs.Step.{from}
use Rattle.journal.specs.History.{history}
use Rattle.journal.specs.Calls.{Left, cleared, reported}

-- held, lost, reports, then five words that nothing asks for, and the words of the first records; the others are zero
abbrev made : ℕ → ℕ → ℕ → List ℕ → List ℕ
made held lost reports ws = bytes_of_all (held ∷ lost ∷ reports ∷ 3 ∷ 4 ∷ 5 ∷ 6 ∷ 7 ∷ (ws ++ replicate (320 - length ws) 0))

pub record Case : Type 0 where
  pub journal : List ℕ
  pub address : ℕ
  pub code : ℕ
  pub root : ℕ
  pub gives : Left

abbrev taken : List ℕ → ℕ → ℕ → ℕ → List ℕ → Case
taken b a c r b' = record { journal = b; address = a; code = c; root = r; gives = record { number = 0; journal = b' } }

abbrev refused : List ℕ → ℕ → ℕ → ℕ → Case
refused b a c r = record { journal = b; address = a; code = c; root = r; gives = record { number = 9; journal = b } }

-- ---- a held record comes again, the first of two; only one that is equal in page, code and root; a new one takes the place behind those held
abbrev pair : ℕ → ℕ → List ℕ
pair m n = 1 ∷ 2 ∷ 0x1000 ∷ 1 ∷ m ∷ 1 ∷ 2 ∷ 0x1000 ∷ 2 ∷ n ∷ []

abbrev places : List Case
places =
    taken (made 2 0 5 (pair 7 9)) 0x1234 2 0x1000 (made 2 0 6 (pair 8 9))
    ∷ taken (made 1 0 5 (pair 7 9)) 0x1234 2 0x2000 (made 2 0 6 (1 ∷ 2 ∷ 0x1000 ∷ 1 ∷ 7 ∷ 1 ∷ 2 ∷ 0x2000 ∷ 6 ∷ 0 ∷ []))
    ∷ taken (made 1 0 5 (pair 7 9)) 0x1234 3 0x1000 (made 2 0 6 (1 ∷ 2 ∷ 0x1000 ∷ 1 ∷ 7 ∷ 1 ∷ 3 ∷ 0x1000 ∷ 6 ∷ 0 ∷ []))
    ∷ taken (made 1 0 5 (pair 7 9)) 0x2234 2 0x1000 (made 2 0 6 (1 ∷ 2 ∷ 0x1000 ∷ 1 ∷ 7 ∷ 2 ∷ 2 ∷ 0x1000 ∷ 6 ∷ 0 ∷ []))
    ∷ taken (made 0 4 5 (pair 7 9)) 0x1234 2 0x1000 (made 1 4 6 (1 ∷ 2 ∷ 0x1000 ∷ 6 ∷ 0 ∷ 1 ∷ 2 ∷ 0x1000 ∷ 2 ∷ 9 ∷ []))
    ∷ taken (made 64 7 100 []) 0x1000 0 0 (made 64 8 101 [])
    ∷ []

-- ---- bits 56 to 12 of the address; code and root as they are given
abbrev pages : List Case
pages =
    taken (made 0 0 0 []) (2 ^ 64 - 1) (2 ^ 64 - 1) (2 ^ 64 - 1) (made 1 0 1 ((2 ^ 45 - 1) ∷ (2 ^ 64 - 1) ∷ (2 ^ 64 - 1) ∷ 1 ∷ 0 ∷ []))
    ∷ taken (made 0 0 0 []) (2 ^ 57 + 2 ^ 12 - 1) 0 0 (made 1 0 1 (0 ∷ 0 ∷ 0 ∷ 1 ∷ 0 ∷ []))
    ∷ taken (made 0 0 0 []) (2 ^ 56 + 2 ^ 12) 0 0 (made 1 0 1 ((2 ^ 44 + 1) ∷ 0 ∷ 0 ∷ 1 ∷ 0 ∷ []))
    ∷ []

-- ---- counts stop at 2^32 - 1: the reports, and with them a new record's number; the repeats; the lost ones
abbrev stops : List Case
stops =
    taken (made 0 0 (2 ^ 32 - 1) []) 0x1000 2 0x1000 (made 1 0 (2 ^ 32 - 1) (1 ∷ 2 ∷ 0x1000 ∷ (2 ^ 32 - 1) ∷ 0 ∷ []))
    ∷ taken (made 2 0 (2 ^ 32 - 2) (pair (2 ^ 32 - 1) 0)) 0x1000 2 0x1000 (made 2 0 (2 ^ 32 - 1) (pair (2 ^ 32 - 1) 0))
    ∷ taken (made 2 0 5 (pair (2 ^ 32 - 2) 0)) 0x1000 2 0x1000 (made 2 0 6 (pair (2 ^ 32 - 1) 0))
    ∷ taken (made 64 (2 ^ 32 - 1) 5 []) 0x1000 0 0 (made 64 (2 ^ 32 - 1) 6 [])
    ∷ []

-- ---- refusal 9: the length; more than 64 held; a count above 2^32 - 1, of the records only those held
abbrev refusals : List Case
refusals =
    refused [] 0 0 0
    ∷ refused (replicate 2623 0) 0 0 0
    ∷ refused (replicate 2625 0) 0 0 0
    ∷ refused (made 65 0 5 []) 0 0 0
    ∷ refused (made 0 (2 ^ 32) 5 []) 0 0 0
    ∷ refused (made 0 0 (2 ^ 32) []) 0 0 0
    ∷ refused (made 2 0 5 (pair 0 (2 ^ 32))) 0x1000 2 0x1000
    ∷ taken (made 1 0 5 (pair 0 (2 ^ 32))) 0x1000 2 0x1000 (made 1 0 6 (pair 1 (2 ^ 32)))
    ∷ []

abbrev all : List Case
all = places ++ (pages ++ (stops ++ refusals))

pub all_shown : map (λ (t : Case). reported t.address t.code t.root t.journal) all ≡ map (λ (t : Case). t.gives) all
unfolding encode decode
all_shown = refl

-- ---- what a history says: of three faults in four reports; and of 65 faults in 67
abbrev at : ℕ → Fault
at page = record { page = page; code = 2; root = 0x1000 }

pub history_shown : words_of 23 (encode (history (at 7 ∷ at 8 ∷ at 7 ∷ at 9 ∷ [])))
    ≡ 3 ∷ 0 ∷ 4 ∷ 0 ∷ 0 ∷ 0 ∷ 0 ∷ 0 ∷ 7 ∷ 2 ∷ 0x1000 ∷ 1 ∷ 1 ∷ 8 ∷ 2 ∷ 0x1000 ∷ 2 ∷ 0 ∷ 9 ∷ 2 ∷ 0x1000 ∷ 4 ∷ 0 ∷ []
unfolding encode
history_shown = refl

abbrev many : Journal
many = history (map at (from 7 65) ++ (at 71 ∷ at 7 ∷ []))

pub loss_shown : many.held ∷ many.lost ∷ many.reports ∷ (many.records 0).fault.page ∷ (many.records 63).fault.page ∷ [] ≡ 64 ∷ 2 ∷ 67 ∷ 7 ∷ 70 ∷ []
loss_shown = refl

-- ---- a clear asks for the length only
abbrev ones : ℕ → List ℕ
ones n = replicate n 255

pub clears : map cleared (ones 2624 ∷ made 65 (2 ^ 32) (2 ^ 32) (pair 0 (2 ^ 32)) ∷ ones 2623 ∷ ones 2625 ∷ [])
    ≡ record { number = 0; journal = replicate 2624 0 } ∷ record { number = 0; journal = replicate 2624 0 }
    ∷ record { number = 9; journal = ones 2623 } ∷ record { number = 9; journal = ones 2625 } ∷ []
clears = refl
