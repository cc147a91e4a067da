-- The ways through a call, once for all proofs: accepted or refused; a translate with paging off, answered by a slot, or walked; a walk that fills a slot,
-- or none. A proof about what a call leaves goes through these and not through the rules' text.
use Prim.Native.Nat.{ℕ, zero, suc, ◌+◌, ◌*◌, ◌/◌}
use mathlib.Core.Path.{◌≡◌, refl, sym, subst}
use mathlib.Core.Logic.{◌⊎◌, inl, inr}
use mathlib.Core.Bool.{Bool, true, false, ◌||◌, not}
use mathlib.Core.List.{List}
use native.Mathlib.Omega.{arith}
use lib.Dec.{eqb}
use borrow.Author.Tests.{eqb-true}
use Rattle.rules.specs.Sizes.{size_at, set_of, slots_of, ways}
use Rattle.rules.specs.Image.{Slot, Image, none, decode, control, pg, pcid, is_held, victim, moved_on}
use Rattle.rules.specs.Memory.{Memory}
use Rattle.rules.specs.Entries.{allows}
use Rattle.rules.specs.Walk.{Leaf, reached, reach_in}
use Rattle.rules.specs.Buffer.{matches, Hit, hit, miss, first, find, serves, dropped, stored, with_victims, put, slot_for, filled}
use Rattle.rules.specs.Refusals.{Request, refusal}
use Rattle.rules.specs.Calls.{After, served, served_if, walked, looked, translated, accepted, Outcome, encoded, call, by_number}
use Rattle.rules.specs.declared.Access.{Access}
use Rattle.rules.specs.declared.Found.{Found}
use Rattle.rules.specs.declared.Answer.TheVariants.{Address, Refused}
use Rattle.rules.proofs.BoolLaws.{either}
use Rattle.rules.proofs.WalkLaws.{found_cases}
use Rattle.rules.proofs.Alike.{AllOf}
use Rattle.rules.proofs.SlotLaws.{Hits, first_all}

-- ---- a call
pub data Called (b : List ℕ) (mem : Memory) (q : Request) : Outcome → Type 0 where
  taken : refusal b mem q ≡ 0 → Called b mem q (encoded (accepted (decode b) mem q))
  refused : (n : ℕ) → refusal b mem q ≡ suc n → Called b mem q (record { answer = Refused (suc n); image = b; memory = mem })

pub called : (b : List ℕ) (mem : Memory) (q : Request) → Called b mem q (call b mem q)
called b mem q = go (refusal b mem q) refl
  where
    go : (n : ℕ) → refusal b mem q ≡ n → Called b mem q (by_number b mem q n)
    go zero e = taken e
    go (suc n) e = refused n e

-- ---- an accepted translate
pub data Way (s : Image) (mem : Memory) (k : Access) (a : ℕ) : After → Type 0 where
  unpaged : pg s.flags ≡ false → Way s mem k a (record { answer = Address a 0 0; image = s; memory = mem })
  answered : pg s.flags ≡ true → (i : ℕ) → find s a ≡ hit i → serves (control s) k (s.slots i).datum ≡ true
      → Way s mem k a (served s mem a i)
  walks : pg s.flags ≡ true → ((i : ℕ) → find s a ≡ hit i → serves (control s) k (s.slots i).datum ≡ false) → Way s mem k a (walked s mem k a)

pub way : (s : Image) (mem : Memory) (k : Access) (a : ℕ) → Way s mem k a (translated (pg s.flags) s mem k a)
way s mem k a = go (pg s.flags) refl
  where
    look : pg s.flags ≡ true → (f : Hit) → find s a ≡ f → Way s mem k a (looked s mem k a f)
    look on miss e = walks on (λ i g. let z : ◌≡◌ {A = ℕ} 0 1 = cc in absurd (omega arith))
    look on (hit i) e = by (serves (control s) k (s.slots i).datum) refl
      where
        by : (b : Bool) → serves (control s) k (s.slots i).datum ≡ b → Way s mem k a (served_if b s mem k a i)
        by true g = answered on i e g
        by false g = walks on (λ j h. let q : i ≡ j = cc in rw (← q) g)

    go : (on : Bool) → pg s.flags ≡ on → Way s mem k a (translated on s mem k a)
    go true on = look on (find s a) refl
    go false off = unpaged off

-- ---- the image after a walk: nothing but the drop; or the page that was found is stored in its set, over a free way or over the victim
abbrev pub cleared : Image → ℕ → Image
cleared s a = dropped (matches (pcid s) a) s

abbrev pub page_slot : Image → Access → ℕ → Leaf → Slot
page_slot s k a p = slot_for s a (size_at p.level) p.base p.rights p.global (k.write || p.dirty)

-- page p went into slot i, and the victims are v
pub record Stores (s : Image) (mem : Memory) (k : Access) (a i v : ℕ) (p : Leaf) : Type 0 where
  pub end : (reach_in mem (control s) a).end ≡ reached p
  pub allowed : allows (control s) k p.rights ≡ true
  pub in_set : i / 4 ≡ set_of (size_at p.level) a
  pub victims : (v ≡ s.victims) ⊎ (v ≡ moved_on (set_of (size_at p.level) a) s.victims)

in_set_lem : (n : ℕ) → AllOf (λ i. i / 4 ≡ n) (slots_of n)
in_set_lem n = omega arith

module _ (s : Image) (mem : Memory) (k : Access) (a : ℕ) (C : Image → Type 0) (unfilled : C (cleared s a))
    (page : (p : Leaf) (i v : ℕ) → Stores s mem k a i v p → C (stored i (page_slot s k a p) (with_victims v (cleared s a)))) where
  put_cases : (p : Leaf) → (reach_in mem (control s) a).end ≡ reached p → allows (control s) k p.rights ≡ true → (f : Hit)
      → Hits (λ i. i / 4 ≡ set_of (size_at p.level) a) f → C (put (set_of (size_at p.level) a) (page_slot s k a p) (cleared s a) f)
  put_cases p e g (hit i) h = page p i s.victims (record { end = e; allowed = g; in_set = h; victims = inl refl })
  put_cases p e g miss h =
      let n : ℕ = set_of (size_at p.level) a in
      page p (4 * n + victim n s.victims) (moved_on n s.victims) (record { end = e; allowed = g; in_set = omega arith; victims = inr refl })

  pub walked_cases : C (walked s mem k a).image
  walked_cases =
      found_cases (control s) k (reach_in mem (control s) a).read (λ (f : Found). C (filled (cleared s a) a f)) (reach_in mem (control s) a).end
      (λ p e g.
      put_cases p e g (first (λ i. not (is_held ((cleared s a).slots i).tag)) (ways (size_at p.level) a))
      (first_all (λ i. i / 4 ≡ set_of (size_at p.level) a) (λ i. not (is_held ((cleared s a).slots i).tag)) (ways (size_at p.level) a)
      (in_set_lem (set_of (size_at p.level) a)))) (λ cause. unfilled)

-- ---- one slot after a walk: emptied, as it was, or the page's
pub walked_slot : (s : Image) (mem : Memory) (k : Access) (a i : ℕ) (C : Slot → Type 0) → C none → C (s.slots i)
    → ((p : Leaf) (v : ℕ) → Stores s mem k a i v p → C (page_slot s k a p)) → C ((walked s mem k a).image.slots i)
walked_slot s mem k a i C gone kept page =
    walked_cases s mem k a (λ (x : Image). C (x.slots i)) left
    (λ p j v h. either C (eqb i j) (page_slot s k a p) _ (λ e. page p v (subst (λ (n : ℕ). Stores s mem k a n v p) (sym (eqb-true i j e)) h)) (λ e. left))
  where
    left : C ((cleared s a).slots i)
    left = either C (matches (pcid s) a i (s.slots i).tag) none (s.slots i) (λ e. gone) (λ e. kept)
