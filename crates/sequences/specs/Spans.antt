-- Moments, and spans of a history: "since the last operation that covers .."
use Rattle.std.specs.Prelude.{ℕ, ◌≡◌, Bool, true, false, ◌&&◌, not, eqb}
use Rattle.rules.specs.Sizes.{size_at, page_number}
use Rattle.rules.specs.Image.{Image, control, root, pcid, pg, pge}
use Rattle.rules.specs.Memory.{Memory}
use Rattle.rules.specs.Walk.{walk}
use Rattle.rules.specs.Buffer.{Hit, hit, miss, find, serves}
use Rattle.rules.specs.Refusals.{Request, start_with, translate, invlpg, invpcid, write_cr3, write_mode}
use Rattle.rules.specs.Calls.{access_of, call}
use Rattle.rules.specs.declared.Access.{Access}
use Rattle.rules.specs.declared.Found.{Found}
use Rattle.rules.specs.declared.Found.TheVariants.{Page, Fault}
use Rattle.sequences.specs.History.{History, begun, ◌then◌with◌, bytes, image, Accepted, is_accepted}
use Rattle.sequences.specs.Covers.{Who, global, others, covered}

-- ---- a moment is an accepted translate. P holds of one moment of the history, and Q of every call after that moment
pub data Since (Q : History → Memory → Request → Type 0) (P : History → Memory → ℕ → ℕ → ℕ → Type 0) : History → Type 0 where
  moment : {h : History} {mem : Memory} (k a ac : ℕ) → Accepted h mem (translate k a ac) → P h mem k a ac → Since Q P (h then translate k a ac with mem)
  later : {h : History} {mem : Memory} (q : Request) → Since Q P h → Q h mem q → Since Q P (h then q with mem)

-- a call that does not cover a's slots of `who`
abbrev pub Uncovered : Who → ℕ → History → Memory → Request → Type 0
Uncovered who a h mem q = covered who a h mem q ≡ false

-- ---- a span begins with the last call that the test names, or with start if there is none
abbrev pub Unless : Bool → Type 0 → Type 0
Unless true A = Unit {0}
Unless false A = A

-- P holds after each call of the span
abbrev pub Throughout : (History → Memory → Request → Bool) → (History → Type 0) → History → Type 0
Throughout begins P (begun b w f ok) = P (begun b w f ok)
Throughout begins P (h then q with mem) = P (h then q with mem) × Unless (begins h mem q) (Throughout begins P h)

-- ---- only the translator changed guest memory, the bytes or the length of low or of high: in the span, each accepted translate, and at last the one that is lent
-- `last`, was lent what the accepted translate before it left. Other calls are given no guest memory, and refused ones leave it alone: they ask nothing
abbrev pub is_translate : Request → Bool
is_translate (start_with w f) = false
is_translate (translate k a ac) = true
is_translate (invlpg a) = false
is_translate (invpcid t p a) = false
is_translate (write_cr3 v) = false
is_translate (write_mode v) = false

abbrev pub is_moment : History → Memory → Request → Bool
is_moment h mem q = is_translate q && is_accepted h mem q

-- guest memory `last` is what that call left
abbrev pub IsLeft : Memory → History → Memory → Request → Type 0
IsLeft last h mem q = last ≡ (call (bytes h) mem q).memory

-- what is asked at a moment, and what at any other call
abbrev pub IfMoment : Bool → Type 0 → Type 0 → Type 0
IfMoment true A B = A
IfMoment false A B = B

abbrev pub OnlyTranslator : (History → Memory → Request → Bool) → History → Memory → Type 0
OnlyTranslator begins (begun b w f ok) last = Unit {0}
OnlyTranslator begins (h then q with mem) last =
    Unless (begins h mem q) (IfMoment (is_moment h mem q) (IsLeft last h mem q × OnlyTranslator begins h mem) (OnlyTranslator begins h last))

-- ---- a walk filled a global page that holds a: paging was on, no slot answered, and the walk found a page that is global while PGE is on
abbrev pub slot_answers : Image → Access → Hit → Bool
slot_answers s k (hit i) = serves (control s) k (s.slots i).datum
slot_answers s k miss = false

abbrev pub global_page : Image → ℕ → ℕ → Found → Bool
global_page s b a (Page base level r g dirty n) = (pge s.flags && g) && eqb (page_number (size_at level) a) (page_number (size_at level) b)
global_page s b a (Fault cause level n) = false

abbrev pub fills_global : ℕ → Image → Memory → Request → Bool
fills_global a s mem (start_with w f) = false
fills_global a s mem (translate k b ac) =
    pg s.flags && not (slot_answers s (access_of k ac) (find s b)) && global_page s b a (walk (control s) (access_of k ac) b mem).found
fills_global a s mem (invlpg b) = false
fills_global a s mem (invpcid t p b) = false
fills_global a s mem (write_cr3 v) = false
fills_global a s mem (write_mode v) = false

-- the last call of the history did not
abbrev pub NoGlobalFill : ℕ → History → Type 0
NoGlobalFill a (begun b w f ok) = Unit {0}
NoGlobalFill a (h then q with mem) = (fills_global a (image h) mem q && is_accepted h mem q) ≡ false

-- ---- the root condition, for a translate of a that is lent `mem` after h, with the span in which only the translator changed memory
-- at p, a point of h, the root was that of h; or it was, if the PCID of h was current
abbrev pub SameRoot : History → History → Type 0
SameRoot h p = root (image p) ≡ root (image h)

abbrev pub SameRootOfPcid : History → History → Type 0
SameRootOfPcid h p = pcid (image p) ≡ pcid (image h) → SameRoot h p

-- as the paper words it: of one operation that covers the address's global slots and the current PCID's others
abbrev pub covered_both : ℕ → ℕ → History → Memory → Request → Bool
covered_both p a h mem q = covered global a h mem q && covered (others p) a h mem q

-- (a) since the last operation that covers the address's global slots and the current PCID's others, one root was in force, that of now
pub record WordedA (h : History) (mem : Memory) (a : ℕ) : Type 0 where
  pub one_root : Throughout (covered_both (pcid (image h)) a) (SameRoot h) h
  pub memory : OnlyTranslator (covered_both (pcid (image h)) a) h mem

-- (b) since that operation no walk filled a global page holding the address; and since the last one that covers the current PCID's others, this PCID had one
-- root, that of now
pub record WordedB (h : History) (mem : Memory) (a : ℕ) : Type 0 where
  pub no_global : Throughout (covered_both (pcid (image h)) a) (NoGlobalFill a) h
  pub root_others : Throughout (covered (others (pcid (image h))) a) (SameRootOfPcid h) h
  pub memory_others : OnlyTranslator (covered (others (pcid (image h))) a) h mem

-- ---- what suffices: for each kind of slot its own last operation. Either begins no sooner than the one operation above, so that its span is a part of that
-- one's and less is asked
-- (a) since the last operation that covers the address's global slots, and since the last one that covers the current PCID's others, one root was in
-- force, that of now
pub record RootA (h : History) (mem : Memory) (a : ℕ) : Type 0 where
  pub root_global : Throughout (covered global a) (SameRoot h) h
  pub root_others : Throughout (covered (others (pcid (image h))) a) (SameRoot h) h
  pub memory_global : OnlyTranslator (covered global a) h mem
  pub memory_others : OnlyTranslator (covered (others (pcid (image h))) a) h mem

-- (b) since the last operation that covers the address's global slots, no walk filled a global page holding the address; and since the last one that
-- covers the current PCID's others, this PCID had one root, that of now
pub record RootB (h : History) (mem : Memory) (a : ℕ) : Type 0 where
  pub no_global : Throughout (covered global a) (NoGlobalFill a) h
  pub root_others : Throughout (covered (others (pcid (image h))) a) (SameRootOfPcid h) h
  pub memory_others : OnlyTranslator (covered (others (pcid (image h))) a) h mem
