-- What the trial program keeps and counts: the image before a case, what a call came to, and the tally.
use Rattle.std.specs.Prelude.{◌≡◌, ℕ, ◌+◌, ◌%◌, ◌^◌, Bool, true, false, ◌&&◌, List, [], replicate, ◌==◌}
use Rattle.rules.specs.Memory.{both, empty}
use Rattle.rules.specs.Answers.{numbers}
use Rattle.rules.specs.Refusals.{Request, start, write_cr3, write_mode}
use Rattle.rules.specs.Calls.{call}
use Rattle.rules.specs.declared.Answer.{Answer}
use Rattle.translator.specs.Contract.{Leaves, Translates}
use Rattle.trial.specs.declared.report.Told.{Told}
use Rattle.trial.specs.declared.report.Told.TheVariants.{Address, Fault, Refused, Done}
use Rattle.trial.specs.declared.report.Tally.{Tally}

-- the image before a case: the state is reached by the calls themselves
abbrev pub ready : List ℕ
ready = (call (call (call (replicate 2048 0) empty (start 40)).image empty (write_cr3 0x1000)).image empty (write_mode 23)).image

-- ---- the numbers of what is told; what it does not have is 0
abbrev pub kind_of : Told → ℕ
kind_of (Address value read) = 0
kind_of (Fault code read) = 1
kind_of (Refused number) = 2
kind_of Done = 3

abbrev pub value_of : Told → ℕ
value_of (Address value read) = value
value_of (Fault code read) = code
value_of (Refused number) = number
value_of Done = 0

abbrev pub read_of : Told → ℕ
read_of (Address value read) = read
read_of (Fault code read) = read
read_of (Refused number) = 0
read_of Done = 0

-- what is told of an answer is its numbers, without the page size
pub record Tells (a : Answer) (o : Told) : Type 0 where
  pub kind : kind_of o ≡ (numbers a).kind
  pub value : value_of o ≡ (numbers a).value
  pub read : read_of o ≡ (numbers a).read

-- what a call came to is told of the answer that its contract allows
pub record Came (q : Request) (b b' : List ℕ) (o : Told) : Type 0 where
  pub answer : Answer
  pub leaves : Leaves q b b' answer
  pub tells : Tells answer o

-- the guest has low alone
pub record CameWith (q : Request) (b b' low low' : List ℕ) (o : Told) : Type 0 where
  pub answer : Answer
  pub leaves : Translates q b b' (both low []) (both low' []) answer
  pub tells : Tells answer o

-- ---- the tally
abbrev pub are_alike : Told → Told → Bool
are_alike a b = kind_of a == kind_of b && value_of a == value_of b && read_of a == read_of b

-- one line more
abbrev pub tallied : Bool → Tally → Tally
tallied true t = record { passed = (t.passed + 1) % 2 ^ 64; failed = t.failed }
tallied false t = record { passed = t.passed; failed = (t.failed + 1) % 2 ^ 64 }
