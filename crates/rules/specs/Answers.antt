-- The answer: "Calls and the answer record" and the fault code of document 01, its fetch bit as requests W-201 and W-205 have it.
use Rattle.std.specs.Prelude.{ℕ, ◌+◌, ◌*◌, ◌%◌, Bool, true, false, ◌&&◌, ◌||◌, List, [], ◌∷◌}
use Rattle.rules.specs.Bits.{one, bytes_of_all}
use Rattle.rules.specs.Sizes.{size_at}
use Rattle.rules.specs.Image.{nxe, smep}
use Rattle.rules.specs.declared.Control.{Control}
use Rattle.rules.specs.declared.Access.{Access}
use Rattle.rules.specs.declared.Cause.{Cause}
use Rattle.rules.specs.declared.Cause.TheVariants.{NotPresent, Reserved, Protection}
use Rattle.rules.specs.declared.Found.{Found}
use Rattle.rules.specs.declared.Found.TheVariants.{Page, Fault}
use Rattle.rules.specs.declared.Answer.{Answer}
use Rattle.rules.specs.declared.Answer.TheVariants.{Address, PageFault, Refused, Done}

-- ---- the code of a page fault, from bit 0 up: something was mapped; a write; by the user; a reserved bit was set; a fetch,
-- if the flags let it tell one
abbrev pub was_present : Cause → Bool
was_present NotPresent = false
was_present Reserved = true
was_present Protection = true

abbrev pub was_reserved : Cause → Bool
was_reserved NotPresent = false
was_reserved Reserved = true
was_reserved Protection = false

-- it tells a fetch with NXE or SMEP on, else none
abbrev pub tells_fetch : ℕ → Bool
tells_fetch flags = nxe flags || smep flags

abbrev pub code : Control → Access → Cause → ℕ
code c k cause =
    one (was_present cause) + 2 * one k.write + 4 * one k.user + 8 * one (was_reserved cause) + 16 * one (k.fetch && tells_fetch c.flags)

-- what is answered for what the walk found: the place in the page that the address names, or the fault
abbrev pub answer_of : Control → Access → ℕ → Found → Answer
answer_of c k a (Page base level r global dirty n) = Address (base + a % (size_at level).length) (size_at level).length n
answer_of c k a (Fault cause level n) = PageFault cause level (code c k cause) n

-- ---- the record: a number for the kind of answer, its value, the length of the page, the entries read; what an answer does not have is 0
pub record Words : Type 0 where
  pub kind : ℕ
  pub value : ℕ
  pub size : ℕ
  pub read : ℕ

abbrev pub numbers : Answer → Words
numbers (Address value size read) = record { kind = 0; value = value; size = size; read = read }
numbers (PageFault cause level number read) = record { kind = 1; value = number; size = 0; read = read }
numbers (Refused number) = record { kind = 2; value = number; size = 0; read = 0 }
numbers Done = record { kind = 3; value = 0; size = 0; read = 0 }

-- as bytes
abbrev pub record_bytes : Words → List ℕ
record_bytes w = bytes_of_all (w.kind ∷ w.value ∷ w.size ∷ w.read ∷ [])

-- what the host's call returns: the number of the refusal, or 0
abbrev pub returned : Answer → ℕ
returned (Address value size read) = 0
returned (PageFault cause level number read) = 0
returned (Refused number) = number
returned Done = 0
