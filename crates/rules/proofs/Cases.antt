-- Cases that are shown by computation: calls made one after the other, what each answers, and what memory and the buffer then hold.
-- A list of cases stands under one claim, that all come out as they should, which is shown by computing both sides.
use Prim.Native.Nat.{ℕ, zero, suc}
use mathlib.Core.Path.{◌≡◌}
use mathlib.Core.Bool.{Bool, cond, ◌&&◌}
use mathlib.Core.List.{List, [], ◌∷◌, ◌++◌, map}
use lib.ListN.{replicate}
use lib.Dec.{eqb}
use Rattle.rules.specs.Image.{Slot, decode}
use Rattle.rules.specs.Memory.{Memory, entry_at}
use Rattle.rules.specs.Answers.{numbers}
use Rattle.rules.specs.Refusals.{Request, start, write_cr3, write_mode}
use Rattle.rules.specs.Calls.{Outcome, call}
use Rattle.rules.specs.declared.Cause.{Cause}
use Rattle.rules.specs.declared.Cause.TheVariants.{NotPresent, Reserved, Protection}
use Rattle.rules.specs.declared.Answer.{Answer}
use Rattle.rules.specs.declared.Answer.TheVariants.{Address, PageFault, Refused, Done}

-- ---- an answer as numbers: its four words, and a fault's cause and level besides
abbrev cause_number : Cause → ℕ
cause_number NotPresent = 0
cause_number Reserved = 1
cause_number Protection = 2

abbrev named : Answer → List ℕ
named (Address value size read) = []
named (PageFault cause level number read) = cause_number cause ∷ level ∷ []
named (Refused number) = []
named Done = []

abbrev pub told : Answer → List ℕ
told r = (numbers r).kind ∷ (numbers r).value ∷ (numbers r).size ∷ (numbers r).read ∷ named r

-- ---- what is looked at after the calls: a word of memory, the flags, the victim numbers, or which slots are not two zero words
infix 70 ◌holds◌
pub data Look : Type 0 where
  ◌holds◌ : ℕ → ℕ → Look
  flags : ℕ → Look
  victims : ℕ → Look
  keeps : List ℕ → Look

abbrev is_none : Slot → Bool
is_none t = eqb t.tag 0 && eqb t.datum 0

-- the slots below n that are not dropped, lowest first
abbrev kept : ℕ → (ℕ → Slot) → List ℕ → List ℕ
kept zero f found = found
kept (suc n) f found = kept n f (cond (is_none (f n)) found (n ∷ found))

abbrev pub seen : List ℕ → Memory → List Look → List ℕ
seen b mem [] = []
seen b mem (a holds w ∷ ls) = entry_at mem a ∷ seen b mem ls
seen b mem (flags f ∷ ls) = (decode b).flags ∷ seen b mem ls
seen b mem (victims v ∷ ls) = (decode b).victims ∷ seen b mem ls
seen b mem (keeps is ∷ ls) = kept 100 (decode b).slots [] ++ seen b mem ls

abbrev pub hoped : List Look → List ℕ
hoped [] = []
hoped (a holds w ∷ ls) = w ∷ hoped ls
hoped (flags f ∷ ls) = f ∷ hoped ls
hoped (victims v ∷ ls) = v ∷ hoped ls
hoped (keeps is ∷ ls) = is ++ hoped ls

-- ---- a case: the image and the memory that the first call is lent; calls, each with its answer; and then each of several endings
infix 70 ◌gives◌
pub record Call : Type 0 where
  pub request : Request
  pub answer : Answer

abbrev pub ◌gives◌ : Request → Answer → Call
◌gives◌ q r = record { request = q; answer = r }

pub record Ending : Type 0 where
  pub calls : List Call
  pub looks : List Look

abbrev pub then : List Call → List Look → Ending
then cs ls = record { calls = cs; looks = ls }

pub record Case : Type 0 where
  pub image : List ℕ
  pub memory : Memory
  pub calls : List Call
  pub endings : List Ending

-- the state of the trial guest, M 40, flags 23 and CR3 0x1000, is reached by the calls themselves; the image before the start may hold anything
abbrev pub blank : List ℕ
blank = replicate 2048 0xA5

abbrev pub ready : List Call
ready = start 40 gives Done ∷ write_cr3 0x1000 gives Done ∷ write_mode 23 gives Done ∷ []

-- calls made one after the other, each lent what the one before it left
pub record Ran : Type 0 where
  pub answers : List ℕ
  pub image : List ℕ
  pub memory : Memory

abbrev pub run : List ℕ → Memory → List Call → Ran
run b mem [] = record { answers = []; image = b; memory = mem }
run b mem (c ∷ cs) =
    let o : Outcome = call b mem c.request in
    let r : Ran = run o.image o.memory cs in
    record { answers = told o.answer ++ r.answers; image = r.image; memory = r.memory }

abbrev pub ended : Ran → List Ending → List ℕ
ended r [] = []
ended r (e ∷ es) =
    let q : Ran = run r.image r.memory e.calls in
    q.answers ++ (seen q.image q.memory e.looks ++ ended r es)

abbrev pub outcome_of : Case → List ℕ
outcome_of c =
    let r : Ran = run c.image c.memory c.calls in
    r.answers ++ ended r c.endings

abbrev pub wanted : List Call → List ℕ
wanted [] = []
wanted (c ∷ cs) = told c.answer ++ wanted cs

abbrev pub wanted_after : List Ending → List ℕ
wanted_after [] = []
wanted_after (e ∷ es) = wanted e.calls ++ (hoped e.looks ++ wanted_after es)

abbrev pub wanted_of : Case → List ℕ
wanted_of c = wanted c.calls ++ wanted_after c.endings

abbrev pub AllRight : List Case → Type 0
AllRight cs = map outcome_of cs ≡ map wanted_of cs
