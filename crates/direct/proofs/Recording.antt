-- The ways through a translation, each with its answer in a record: what is left is what the translator's way leaves, written.
use Prim.Native.Nat.{ℕ}
use mathlib.Core.Path.{◌≡◌, refl, ap, sym, ◌∙◌, subst}
use mathlib.Core.Bool.{Bool, true, false}
use mathlib.Core.List.{List}
use lib.ListN.{length}
use Rattle.rules.specs.Image.{Image, decode, control, pg}
use Rattle.rules.specs.Memory.{Memory}
use Rattle.rules.specs.Buffer.{Hit, hit, miss, find}
use Rattle.rules.specs.Answers.{Words, numbers, answer_of, returned}
use Rattle.rules.specs.declared.Access.{Access}
use Rattle.rules.specs.declared.Found.{Found}
use Rattle.rules.specs.declared.Found.TheVariants.{Page, Fault}
use Rattle.rules.specs.Refusals.{Request, translate, refusal}
use Rattle.rules.specs.Calls.{access_of, served_if, looked, written}
use Rattle.rules.specs.declared.Answer.{Answer}
use Rattle.rules.specs.declared.Answer.TheVariants.{Address, Refused}
use Rattle.rules.proofs.CallLaws.{door_written, door_refused}
use Rattle.records.specs.Record.{Holds}
use Rattle.numbers.specs.Needs.{IsAccess, ForEach}
use Rattle.refusals.specs.Refusal.{number_of}
use Rattle.refusals.specs.declared.refusal.Refusal.{Refusal}
use Rattle.translator.specs.Contract.{Translates}
use Rattle.translator.proofs.Translating.{refuses_it, Accepts, usable, whole, flat, goes_on_lem}
use Rattle.direct.specs.Writing.{Lent, Writes}
use Rattle.direct.specs.Contract.{TranslatesInto, IntoRecord}

-- ---- through the door: the answer bytes have the wrong length, or the answer is written
pub turned_away : (q : Request) (r b : List ℕ) (mem : Memory) → (length r ≡ 32 → ⊥) → TranslatesInto q r r b b mem mem 1
turned_away q r b mem wrong = record { left = sym (door_refused r b mem q wrong) }

pub through : (q : Request) (r r' b b' : List ℕ) (mem mem' : Memory) (n : ℕ) → length r ≡ 32 → IntoRecord q r' b b' mem mem' n → TranslatesInto q r r' b b' mem mem' n
through q r r' b b' mem mem' n right h = record { left = h.left ∙ sym (door_written r b mem q right) }

writes_it : (q : Request) (r' b b' : List ℕ) (mem mem' : Memory) (a : Answer) (n : ℕ) → Translates q b b' mem mem' a → n ≡ returned a → Holds (numbers a) r'
    → IntoRecord q r' b b' mem mem' n
writes_it q r' b b' mem mem' a n t e h =
    record { left = (λ j. record { number = e j; answer = h.bytes j; image = b'; memory = mem' }) ∙ ap written t.outcome }

pub writes_refusal : (b : List ℕ) (mem : Memory) (k a ac : ℕ) (e : Refusal) (r : Answer) (w : Words) (r' : List ℕ) → number_of e ≡ refusal b mem (translate k a ac)
    → r ≡ Refused (number_of e) → w ≡ numbers r → Holds w r' → IntoRecord (translate k a ac) r' b b mem mem (number_of e)
writes_refusal b mem k a ac e r w r' h g d x =
    writes_it _ r' b b mem mem r (number_of e) (refuses_it b mem k a ac e r h g) (ap returned (sym g)) (subst (λ (y : Words). Holds y r') d x)

-- ---- one that is accepted is no refusal
told_none : (s : Image) (mem : Memory) (k : Access) (a : ℕ) (h : Hit) → returned (looked s mem k a h).answer ≡ 0
told_none s mem k a h = by_hit h
  where
    by_found : (f : Found) → returned (answer_of (control s) k a f) ≡ 0
    by_found (Page base level r global dirty n) = refl
    by_found (Fault cause level n) = refl

    by_served : (x : Bool) (i : ℕ) → returned (served_if x s mem k a i).answer ≡ 0
    by_served true i = refl
    by_served false i = by_found _

    by_hit : (h : Hit) → returned (looked s mem k a h).answer ≡ 0
    by_hit (hit i) = by_served _ i
    by_hit miss = by_found _

module _ (b : List ℕ) (mem : Memory) (k a ac : ℕ) (x : Accepts b mem k a ac) where
  pub writes_flat : pg (decode b).flags ≡ false → (r' : List ℕ) → Holds (record { kind = 0; value = a; size = 0; read = 0 }) r'
      → IntoRecord (translate k a ac) r' b b mem mem 0
  writes_flat off r' h = writes_it _ r' b b mem mem (Address a 0 0) 0 (flat b mem k a ac x off) refl h

  -- its access has a number
  module _ (n : ℕ) (is : IsAccess (decode b).flags n (access_of k ac)) where
    pub lent : (r : List ℕ) → length r ≡ 32 → Lent b r mem n
    lent r room = record { usable = usable b mem k a ac x; room = room; whole = whole b mem k a ac x; known = record { access = access_of k ac; is = is } }

    pub writes_looked : pg (decode b).flags ≡ true → (r' b' : List ℕ) (mem' : Memory)
        → ForEach (decode b).flags n (λ q. Writes (looked (decode b) mem q a (find (decode b) a)) r' b' mem') → IntoRecord (translate k a ac) r' b b' mem mem' 0
    writes_looked on r' b' mem' h =
        let w : Writes (looked (decode b) mem (access_of k ac) a (find (decode b) a)) r' b' mem' = h (access_of k ac) is in
        writes_it _ r' b b' mem mem' _ 0 (goes_on_lem b mem k a ac x on b' mem' _ (record { answer = refl; image = w.image; memory = w.memory }))
        (sym (told_none (decode b) mem (access_of k ac) a (find (decode b) a))) w.answer
