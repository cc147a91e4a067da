-- Demand 3: what is claimed of answers. Each claim is a type; proofs/ has one proof of each, by the claim's name with a small first letter. What is claimed of
-- drops stands in `Drops`.
use Rattle.std.specs.Prelude.{ℕ, suc, ◌≡◌, ◌⊎◌, Bool, true, false, cond, List}
use Rattle.rules.specs.Image.{Image, decode, control, pcid, pg, is_global}
use Rattle.rules.specs.Memory.{Memory}
use Rattle.rules.specs.Walk.{Reach, Walked, reach_in, judged, walk}
use Rattle.rules.specs.Buffer.{Hit, hit, miss, find}
use Rattle.rules.specs.Answers.{answer_of}
use Rattle.rules.specs.Refusals.{translate}
use Rattle.rules.specs.Calls.{access_of, Outcome, call}
use Rattle.rules.specs.declared.Access.{Access}
use Rattle.rules.specs.declared.Cause.{Cause}
use Rattle.rules.specs.declared.Answer.{Answer}
use Rattle.rules.specs.declared.Answer.TheVariants.{Address, PageFault, Refused, Done}
use Rattle.sequences.specs.History.{History, ◌then◌with◌, bytes, image, Accepted}
use Rattle.sequences.specs.Covers.{Who, global, others}
use Rattle.sequences.specs.Spans.{Since, Uncovered, WordedA, WordedB, RootA, RootB}

-- ---- a translate with no buffer: the walk, always. With paging off there is none
pub record Plain : Type 0 where
  pub answer : Answer
  pub memory : Memory

abbrev pub walk_only : Bool → Image → Memory → Access → ℕ → Plain
walk_only true s mem k a =
    let w : Walked = walk (control s) k a mem in
    record { answer = answer_of (control s) k a w.found; memory = w.memory }
walk_only false s mem k a = record { answer = Address a 0 0; memory = mem }

abbrev pub plain : Image → Memory → ℕ → ℕ → ℕ → Plain
plain s mem k a ac = walk_only (pg s.flags) s mem (access_of k ac) a

-- the same of another moment, as judged now: which page the walk reaches goes by the memory and the control state s of that moment; whether the access
-- may use it, AC and all, goes by `now`, the image of the call. Judging reads the flags by which rights are judged, write protect, SMEP and SMAP, and nothing else of
-- control: this is seen in the rules' `allows`, where `wp`, `smep` and `smap` are all that is asked of it. A fault's code goes by `now` as well, whatever it asks: of another
-- moment only an address is claimed (`Gives`)
abbrev pub judged_by : Image → Bool → Image → Memory → Access → ℕ → Answer
judged_by now true s mem k a =
    let w : Reach = reach_in mem (control s) a in
    answer_of (control now) k a (judged (control now) k w.end w.read)
judged_by now false s mem k a = Address a 0 0

abbrev pub plain_then : Image → Image → Memory → ℕ → ℕ → ℕ → Answer
plain_then now s mem k a ac = judged_by now (pg s.flags) s mem (access_of k ac) a

-- an answer but for the number of entries read
abbrev pub but_count : Answer → Answer
but_count (Address value size read) = Address value size 0
but_count (PageFault cause level code read) = PageFault cause level code 0
but_count (Refused n) = Refused n
but_count Done = Done

-- ---- answers: an address that is answered is the one that a walk gave, at a moment after which no call covers the slot that answers
-- whose slot it is that is asked, the first that matches
abbrev pub whose_hit : Image → Hit → Who
whose_hit s (hit i) = cond (is_global (s.slots i).tag) global (others (pcid s))
whose_hit s miss = others (pcid s)

abbrev pub whose : Image → ℕ → Who
whose s a = whose_hit s (find s a)

-- the moment of a slot that is not global ran under the PCID of now
abbrev pub RanUnder : Who → Image → Image → Type 0
RanUnder global now s = Unit {0}
RanUnder (others p) now s = pcid s ≡ pcid now

-- of a moment at h: its walk gives this address and size to the access of now
pub record Gives (now : Image) (who : Who) (k a ac value size : ℕ) (h : History) (mem : Memory) (k₀ a₀ ac₀ : ℕ) : Type 0 where
  pub answer : but_count (plain_then now (image h) mem k a ac) ≡ Address value size 0
  pub under : RanUnder who now (image h)

abbrev pub Answers : Type 0
Answers =
    (h : History) (mem : Memory) (k a ac value size read : ℕ)
    → (call (bytes h) mem (translate k a ac)).answer ≡ Address value size read
    → Since (Uncovered (whose (image h) a) a) (Gives (image h) (whose (image h) a) k a ac value size) (h then translate k a ac with mem)

-- ---- what was read is of now: an answer with entries read, and any fault, are the walk's of this call, memory included. Of hand-made images too
pub record IsPlain (s : Image) (mem : Memory) (k a ac : ℕ) (o : Outcome) : Type 0 where
  pub answer : o.answer ≡ (plain s mem k a ac).answer
  pub memory : o.memory ≡ (plain s mem k a ac).memory

abbrev pub ReadNow : Type 0
ReadNow =
    (b : List ℕ) (mem : Memory) (k a ac value size read : ℕ)
    → (call b mem (translate k a ac)).answer ≡ Address value size (suc read)
    → IsPlain (decode b) mem k a ac (call b mem (translate k a ac))

abbrev pub Faults : Type 0
Faults =
    (b : List ℕ) (mem : Memory) (k a ac : ℕ) (cause : Cause) (level code read : ℕ)
    → (call b mem (translate k a ac)).answer ≡ PageFault cause level code read
    → IsPlain (decode b) mem k a ac (call b mem (translate k a ac))

-- ---- equality: under the root condition the answer but for the count, and all guest memory, are those without a buffer
pub record IsPlainButCount (s : Image) (mem : Memory) (k a ac : ℕ) (o : Outcome) : Type 0 where
  pub answer : but_count o.answer ≡ but_count (plain s mem k a ac).answer
  pub memory : o.memory ≡ (plain s mem k a ac).memory

-- in the paper's words
abbrev pub EqualityWorded : Type 0
EqualityWorded =
    (h : History) (mem : Memory) (k a ac : ℕ)
    → Accepted h mem (translate k a ac)
    → WordedA h mem a ⊎ WordedB h mem a
    → IsPlainButCount (image h) mem k a ac (call (bytes h) mem (translate k a ac))

-- under what suffices
abbrev pub Equality : Type 0
Equality =
    (h : History) (mem : Memory) (k a ac : ℕ)
    → Accepted h mem (translate k a ac)
    → RootA h mem a ⊎ RootB h mem a
    → IsPlainButCount (image h) mem k a ac (call (bytes h) mem (translate k a ac))
