-- From a slot's origin to now: while nothing covers the slot, the width and NXE stay, since a call that changes either covers everything; and while only
-- the translator changes memory, memory only grows. So the origin is seen from now in every span in which only the translator wrote.
use Prim.Native.Nat.{ℕ}
use mathlib.Core.Path.{◌≡◌, refl, sym, ◌∙◌, subst}
use mathlib.Core.Bool.{Bool, true, false, ◌&&◌, ◌||◌, true≢false, and-true, and-false}
use borrow.Author.Tests.{eq-eqb}
use Rattle.rules.specs.Image.{Image, control, pg, pge, pcide, nxe, pcid}
use Rattle.rules.specs.Memory.{Memory}
use Rattle.rules.specs.Refusals.{Request, start_with, translate, invlpg, invpcid, write_cr3, write_mode, refusal}
use Rattle.rules.specs.Calls.{After, access_of, accepted, call}
use Rattle.rules.specs.declared.Access.{Access}
use Rattle.rules.proofs.BoolLaws.{or_right}
use Rattle.rules.proofs.Alike.{Agree}
use Rattle.rules.proofs.Grown.{Grown, grown_none, grown_on, call_grows}
use Rattle.rules.proofs.CallWays.{Way, unpaged, answered, walks, way, walked_cases}
use Rattle.sequences.specs.History.{History, begun, ◌then◌with◌, bytes, image}
use Rattle.sequences.specs.Covers.{Who, global, others, differ, changes, covers, covered}
use Rattle.sequences.specs.Spans.{Since, moment, later, Uncovered, Unless, Throughout, is_moment, IsLeft, IfMoment, OnlyTranslator, SameRoot, NoGlobalFill, RootA, RootB, covered_both, WordedA, WordedB}
use Rattle.sequences.proofs.Images.{image_cases}

-- ---- a call that does not cover the slots of some `who` keeps what the walk goes by, but for the root
abbrev pub Kept : Image → Image → Type 0
Kept s s' = Agree (control s) (control s')

kept_way : (s : Image) (mem : Memory) (k : Access) (a : ℕ) {o : After} → Way s mem k a o → Kept s o.image
kept_way s mem k a (unpaged off) = record { width = refl; nxe = refl }
kept_way s mem k a (answered on i e g) = record { width = refl; nxe = refl }
kept_way s mem k a (walks on un) = walked_cases s mem k a (Kept s) (record { width = refl; nxe = refl }) (λ p i v h. record { width = refl; nxe = refl })

not_differ : (x y : Bool) → differ x y ≡ false → y ≡ x
not_differ true true h = refl
not_differ true false h = absurd (true≢false h)
not_differ false y h = h

-- a mode write covers by the flags alone, whatever the size
thrice : (b : Bool) → (b && b && b) ≡ false → b ≡ false
thrice true h = h
thrice false h = refl

kept_accepted : (who : Who) (a : ℕ) (s : Image) (mem : Memory) (q : Request) → covers who a s q ≡ false → Kept s (accepted s mem q).image
kept_accepted who a s mem (start_with w f) h = absurd (true≢false h)
kept_accepted who a s mem (translate k b ac) h = kept_way s mem (access_of k ac) b (way s mem (access_of k ac) b)
kept_accepted who a s mem (invlpg b) h = record { width = refl; nxe = refl }
kept_accepted who a s mem (invpcid t p b) h = record { width = refl; nxe = refl }
kept_accepted who a s mem (write_cr3 v) h = record { width = refl; nxe = refl }
kept_accepted who a s mem (write_mode v) h =
    record {
      width = refl;
      nxe =
          not_differ (nxe v) (nxe s.flags)
          (or_right (differ (pg v) (pg s.flags) || differ (pge v) (pge s.flags) || differ (pcide v) (pcide s.flags)) _ (thrice (changes v s.flags) h));
    }

kept_call : (who : Who) (a : ℕ) (h : History) (mem : Memory) (q : Request) → Uncovered who a h mem q → Kept (image h) (image (h then q with mem))
kept_call who a h mem q u =
    image_cases h mem q (Kept (image h))
    (λ ok. kept_accepted who a (image h) mem q (rw (eq-eqb (refusal (bytes h) mem q) 0 ok, and-true) at u)) (λ n r. record { width = refl; nxe = refl })

-- ---- the moment, seen from now: what the walk goes by was kept since, and memory has grown
pub data Traced (P : History → Memory → ℕ → ℕ → ℕ → Type 0) (R : History → Type 0) (h : History) (last : Memory) : Type 0 where
  from : {h₀ : History} {m : Memory} {k b ac : ℕ} → P h₀ m k b ac → R h₀ → Kept (image h₀) (image h) → Grown (call (bytes h₀) m (translate k b ac)).memory last
      → Traced P R h last

-- what holds throughout a span holds at its end; and at a call that does not begin the span, the span goes on before it
throughout_end : (begins : History → Memory → Request → Bool) (R : History → Type 0) (h : History) → Throughout begins R h → R h
throughout_end begins R (begun b w f ok) t = t
throughout_end begins R (h then q with mem) t = t.0

pub goes_on_lem : (b : Bool) (A : Type 0) → b ≡ false → Unless b A → A
goes_on_lem true A e x = absurd (true≢false e)
goes_on_lem false A e x = x

-- what the span asks of a call: that `last` is what it left, if it is a moment
abbrev Asked : (History → Memory → Request → Bool) → Bool → History → Memory → Request → Memory → Type 0
Asked begins b h mem q last = IfMoment b (IsLeft last h mem q × OnlyTranslator begins h mem) (OnlyTranslator begins h last)

module _ {Q : History → Memory → Request → Type 0} {P : History → Memory → ℕ → ℕ → ℕ → Type 0} (R : History → Type 0) (who : Who) (a : ℕ)
    (un : (h : History) (mem : Memory) (q : Request) → Q h mem q → Uncovered who a h mem q) where
  pub traced : {h : History} (last : Memory) → Since Q P h → Throughout (covered who a) R h → OnlyTranslator (covered who a) h last → Traced P R h last
  traced last (moment {h = h} {mem = mem} k b ac ok p) t o =
      let at : Asked (covered who a) true h mem (translate k b ac) last = rw (eq-eqb (refusal (bytes h) mem (translate k b ac)) 0 ok) at o in
      from p (throughout_end (covered who a) R h t.1) (kept_call who a h mem (translate k b ac) refl)
      (subst (Grown (call (bytes h) mem (translate k b ac)).memory) (sym at.0) (grown_none _))
  traced last (later {h = h} {mem = mem} q r u) t o =
      go (is_moment h mem q) (goes_on_lem (covered who a h mem q) (Asked (covered who a) (is_moment h mem q) h mem q last) (un h mem q u) o)
      (λ m. traced m r (goes_on_lem (covered who a h mem q) (Throughout (covered who a) R h) (un h mem q u) t.1))
    where
      onward : (m : Memory) → Grown m last → Traced P R h m → Traced P R (h then q with mem) last
      onward m g (from p x s z) =
          let y : Kept (image h) (image (h then q with mem)) = kept_call who a h mem q (un h mem q u) in
          from p x (record { width = s.width ∙ y.width; nxe = s.nxe ∙ y.nxe }) (grown_on _ m last z g)

      go : (b : Bool) → Asked (covered who a) b h mem q last → ((m : Memory) → OnlyTranslator (covered who a) h m → Traced P R h m)
          → Traced P R (h then q with mem) last
      go true w ih = onward mem (subst (Grown mem) (sym w.0) (call_grows (bytes h) mem q)) (ih mem w.1)
      go false w ih = onward last (grown_none last) (ih last w)

-- ---- the root condition as the paper words it asks more than ours: a span that begins later is a part of one that begins sooner
shorter : (A B : Type 0) (x y : Bool) → (y ≡ false → x ≡ false) → (A → B) → Unless x A → Unless y B
shorter A B x true f g u = tt
shorter A B x false f g u = g (goes_on_lem x A (f refl) u)

module _ (c d : History → Memory → Request → Bool) (sooner : (h : History) (mem : Memory) (q : Request) → d h mem q ≡ false → c h mem q ≡ false) where
  part : (R : History → Type 0) (h : History) → Throughout c R h → Throughout d R h
  part R (begun b w f ok) t = t
  part R (h then q with mem) t =
      (t.0, shorter (Throughout c R h) (Throughout d R h) (c h mem q) (d h mem q) (sooner h mem q) (part R h) t.1)

  memory_part : (h : History) (last : Memory) → OnlyTranslator c h last → OnlyTranslator d h last
  memory_part (begun b w f ok) last o = tt
  memory_part (h then q with mem) last o =
      shorter (Asked c (is_moment h mem q) h mem q last) (Asked d (is_moment h mem q) h mem q last) (c h mem q) (d h mem q) (sooner h mem q)
      (go (is_moment h mem q) (memory_part h)) o
    where
      go : (b : Bool) → ((m : Memory) → OnlyTranslator c h m → OnlyTranslator d h m) → Asked c b h mem q last → Asked d b h mem q last
      go true ih w = (w.0, ih mem w.1)
      go false ih w = ih last w

module _ (h : History) (mem : Memory) (a : ℕ) where
  abbrev both : History → Memory → Request → Bool
  both = covered_both (pcid (image h)) a

  of_global : (h₀ : History) (m : Memory) (q : Request) → covered global a h₀ m q ≡ false → both h₀ m q ≡ false
  of_global h₀ m q e = rw e

  of_others : (h₀ : History) (m : Memory) (q : Request) → covered (others (pcid (image h))) a h₀ m q ≡ false → both h₀ m q ≡ false
  of_others h₀ m q e = rw e (and-false (covered global a h₀ m q))

  pub worded_a : WordedA h mem a → RootA h mem a
  worded_a c =
      record {
        root_global = part both (covered global a) of_global (SameRoot h) h c.one_root;
        root_others = part both (covered (others (pcid (image h))) a) of_others (SameRoot h) h c.one_root;
        memory_global = memory_part both (covered global a) of_global h mem c.memory;
        memory_others = memory_part both (covered (others (pcid (image h))) a) of_others h mem c.memory;
      }

  pub worded_b : WordedB h mem a → RootB h mem a
  worded_b c =
      record {
        no_global = part both (covered global a) of_global (NoGlobalFill a) h c.no_global;
        root_others = c.root_others;
        memory_others = c.memory_others;
      }
