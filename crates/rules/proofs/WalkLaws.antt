-- What holds of every walk, by one induction over the level: the count is the number of addresses read; where a walk ends, what it finds and what it writes.
use Prim.Native.Nat.{ℕ, zero, suc, ◌+◌, ◌-◌, ◌%◌, ◌^◌, ◌≤◌, ◌<◌}
use mathlib.Core.Path.{◌≡◌, refl, ap, ◌∙◌, subst}
use mathlib.Core.Bool.{Bool, true, false, cond, ◌||◌}
use mathlib.Core.List.{List}
use native.Mathlib.Omega.{arith}
use native.Mathlib.Numerals.{one-add}
use lib.ListN.{length}
use Rattle.rules.specs.Bits.{is_on, part}
use Rattle.rules.specs.Sizes.{shift}
use Rattle.rules.specs.Memory.{Memory, entry_at}
use Rattle.rules.specs.Entries.{Entry, absent, bad, page, table, sorted, says, is_page, is_reserved, next, everything, also, allows}
use Rattle.rules.specs.Walk.{top, place, Leaf, End, reached, stuck, Reach, step, reach, reach_in, page_if, judged, marked, accessed, dirtied}
use Rattle.rules.specs.declared.Control.{Control}
use Rattle.rules.specs.declared.Access.{Access}
use Rattle.rules.specs.declared.Rights.{Rights}
use Rattle.rules.specs.declared.Cause.{Cause}
use Rattle.rules.specs.declared.Cause.TheVariants.{Protection}
use Rattle.rules.specs.declared.Found.{Found}
use Rattle.rules.specs.declared.Found.TheVariants.{Page, Fault}
use Rattle.rules.proofs.SizeLaws.{base_low, base_lt}
use Rattle.rules.proofs.FormatLaws.{page_low}

-- ---- induction over the level, once for all laws: a property of the levels left and the walk from there holds of every walk, if it holds where
-- no level is left and each step hands it on, whatever its entry says
module _ (P : ℕ → Reach → Type 0) (rd : ℕ → ℕ) (c : Control) (a : ℕ) where
  pub reach_ind : P zero (reach rd c a zero 0 (record { writable = true; user = true; executable = true }))
      → ((n at : ℕ) (r : Rights) (below : Reach) → P n below → (v : Entry) → says c (suc n) (rd at) ≡ v
      → P (suc n) (step c (suc n) at (rd at) r below v))
      → (level base : ℕ) (r : Rights) → P level (reach rd c a level base r)
  reach_ind z s zero base r = z
  reach_ind z s (suc n) base r =
      let e : ℕ = rd (place (suc n) base a) in
      s n (place (suc n) base a) (also r e) (reach rd c a n (next c e) (also r e)) (reach_ind z s n (next c e) (also r e)) (says c (suc n) e) refl

-- the step, where a level is left
pub reach_step : (rd : ℕ → ℕ) (c : Control) (a level base : ℕ) (r : Rights) → 0 < level
    → let at : ℕ = place level base a in
    reach rd c a level base r ≡ step c level at (rd at) (also r (rd at)) (reach rd c a (level - 1) (next c (rd at)) (also r (rd at))) (says c level (rd at))
reach_step rd c a zero base r h = absurd (omega arith)
reach_step rd c a (suc n) base r h = let e : suc n - 1 ≡ n = omega arith in rw e

-- ---- the count is the number of addresses read, 1 to the level
pub counted : (rd : ℕ → ℕ) (c : Control) (a level base : ℕ) (r : Rights)
    → (reach rd c a level base r).read ≡ length (reach rd c a level base r).path
counted rd c a = reach_ind (λ n w. w.read ≡ length w.path) rd c a refl go
  where
    go : (n at : ℕ) (r : Rights) (below : Reach) → below.read ≡ length below.path → (v : Entry) → says c (suc n) (rd at) ≡ v
        → (step c (suc n) at (rd at) r below v).read
        ≡ length (step c (suc n) at (rd at) r below v).path
    go n at r below h absent e = refl
    go n at r below h bad e = refl
    go n at r below h page e = refl
    go n at r below h table e = one-add below.read ∙ ap suc h

pub read_range : (rd : ℕ → ℕ) (c : Control) (a level base : ℕ) (r : Rights) → 1 ≤ level
    → (1 ≤ (reach rd c a level base r).read) × ((reach rd c a level base r).read ≤ level)
read_range rd c a level base r h = ((within level base r).0 h, (within level base r).1)
  where
    go : (n at : ℕ) (r : Rights) (below : Reach) → (1 ≤ n → 1 ≤ below.read) × (below.read ≤ n) → (v : Entry) → says c (suc n) (rd at) ≡ v
        → (1 ≤ suc n → 1 ≤ (step c (suc n) at (rd at) r below v).read) × ((step c (suc n) at (rd at) r below v).read ≤ suc n)
    go n at r below h absent e = omega arith
    go n at r below h bad e = omega arith
    go n at r below h page e = omega arith
    go n at r below h table e = omega arith

    within : (level base : ℕ) (r : Rights) → (1 ≤ level → 1 ≤ (reach rd c a level base r).read) × ((reach rd c a level base r).read ≤ level)
    within = reach_ind (λ n w. (1 ≤ n → 1 ≤ w.read) × (w.read ≤ n)) rd c a (omega arith) go

-- ---- what an entry can say at a level
page_only : (p b : Bool) → sorted p b true ≡ table → ⊥
page_only false b h = let z : ◌≡◌ {A = ℕ} 0 1 = cc in omega arith
page_only true true h = let z : ◌≡◌ {A = ℕ} 0 1 = cc in omega arith
page_only true false h = let z : ◌≡◌ {A = ℕ} 0 1 = cc in omega arith

-- level 1 gives no table
pub last_table : (c : Control) (e : ℕ) → says c 1 e ≡ table → ⊥
last_table c e h = page_only (is_on 0 e) (is_reserved c 1 true e) h

-- a page stands at levels 1 to 3
page_is : (p b l : Bool) → sorted p b l ≡ page → l ≡ true
page_is false b l h = let z : ◌≡◌ {A = ℕ} 0 1 = cc in absurd (omega arith)
page_is true true l h = let z : ◌≡◌ {A = ℕ} 0 1 = cc in absurd (omega arith)
page_is true false true h = refl
page_is true false false h = let z : ◌≡◌ {A = ℕ} 0 1 = cc in absurd (omega arith)

pub page_level : (c : Control) (level e : ℕ) → says c level e ≡ page → level ≤ 3
page_level c level e h = page_low level e (page_is (is_on 0 e) (is_reserved c level (is_page level e) e) (is_page level e) h)

-- ---- where a walk ends
abbrev pub end_level : End → ℕ
end_level (reached p) = p.level
end_level (stuck cause level) = level

-- each level that is passed is an entry read
pub ended : (rd : ℕ → ℕ) (c : Control) (a level base : ℕ) (r : Rights) → 1 ≤ level
    → end_level (reach rd c a level base r).end + (reach rd c a level base r).read ≡ suc level
ended rd c a = reach_ind (λ n w. 1 ≤ n → end_level w.end + w.read ≡ suc n) rd c a (λ h. absurd (omega arith)) go
  where
    deeper : (n : ℕ) (below : Reach) → (1 ≤ n → end_level below.end + below.read ≡ suc n) → (e : ℕ) → says c (suc n) e ≡ table
        → end_level below.end + (1 + below.read) ≡ suc (suc n)
    deeper zero below h e q = absurd (last_table c e q)
    deeper (suc n) below h e q = omega (arith, h (omega arith))

    go : (n at : ℕ) (r : Rights) (below : Reach) → (1 ≤ n → end_level below.end + below.read ≡ suc n) → (v : Entry)
        → says c (suc n) (rd at) ≡ v → 1 ≤ suc n
        → end_level (step c (suc n) at (rd at) r below v).end
        + (step c (suc n) at (rd at) r below v).read ≡ suc (suc n)
    go n at r below h absent q g = omega arith
    go n at r below h bad q g = omega arith
    go n at r below h page q g = omega arith
    go n at r below h table q g = deeper n below h (rd at) q

-- so no higher than it began
pub end_low : (rd : ℕ → ℕ) (c : Control) (a level base : ℕ) (r : Rights) → 1 ≤ level → end_level (reach rd c a level base r).end ≤ level
end_low rd c a level base r h = omega (arith, ended rd c a level base r h, read_range rd c a level base r h)

-- ---- a page is what its entry says, at level 1 to 3
pub record IsLeaf (rd : ℕ → ℕ) (c : Control) (p : Leaf) : Type 0 where
  pub low : 1 ≤ p.level
  pub high : p.level ≤ 3
  pub base : p.base ≡ part c.width (shift p.level) (rd p.at)
  pub dirty : p.dirty ≡ is_on 6 (rd p.at)

abbrev IsEnd : (ℕ → ℕ) → Control → End → Type 0
IsEnd rd c (reached p) = IsLeaf rd c p
IsEnd rd c (stuck cause level) = Unit {0}

is_end : (rd : ℕ → ℕ) (c : Control) (a level base : ℕ) (r : Rights) → IsEnd rd c (reach rd c a level base r).end
is_end rd c a = reach_ind (λ n w. IsEnd rd c w.end) rd c a tt go
  where
    go : (n at : ℕ) (r : Rights) (below : Reach) → IsEnd rd c below.end → (v : Entry) → says c (suc n) (rd at) ≡ v
        → IsEnd rd c (step c (suc n) at (rd at) r below v).end
    go n at r below h absent q = tt
    go n at r below h bad q = tt
    go n at r below h page q = record { low = omega arith; high = page_level c (suc n) (rd at) q; base = refl; dirty = refl }
    go n at r below h table q = h

pub is_leaf : (mem : Memory) (c : Control) (a : ℕ) (p : Leaf) → (reach_in mem c a).end ≡ reached p → IsLeaf (entry_at mem) c p
is_leaf mem c a p e = subst (IsEnd (entry_at mem) c) e (is_end (entry_at mem) c a (top c) c.root everything)

-- its base is a multiple of 4096 below 2^52
module _ (rd : ℕ → ℕ) (c : Control) (p : Leaf) (l : IsLeaf rd c p) where
  pub leaf_base : p.base % 4096 ≡ 0
  leaf_base = rw l.base (base_low p.level c.width (rd p.at) l.low)

  pub leaf_lt : c.width ≤ 52 → p.base < 2 ^ 52
  leaf_lt w = rw l.base (base_lt p.level c.width (rd p.at) w l.high)

-- ---- what is found: a page that the access may use, or a fault at the level where the walk ended
pub found_cases : (c : Control) (k : Access) (n : ℕ) (C : Found → Type 0) (w : End)
    → ((p : Leaf) → w ≡ reached p → allows c k p.rights ≡ true → C (Page p.base p.level p.rights p.global (k.write || p.dirty) n))
    → ((cause : Cause) → C (Fault cause (end_level w) n)) → C (judged c k w n)
found_cases c k n C (stuck cause level) may fault = fault cause
found_cases c k n C (reached p) may fault = go (allows c k p.rights) refl
  where
    go : (b : Bool) → allows c k p.rights ≡ b → C (page_if b k p n)
    go true g = may p refl g
    go false g = fault Protection

-- ---- a fault writes nothing
abbrev pub IsFault : Found → Type 0
IsFault (Page base level r global dirty n) = ⊥
IsFault (Fault cause level n) = Unit {0}

pub fault_keeps : (c : Control) (k : Access) (w : End) (n : ℕ) (path : List ℕ) (mem : Memory)
    → IsFault (judged c k w n) → marked c k w path mem ≡ mem
fault_keeps c k (stuck cause level) n path mem h = refl
fault_keeps c k (reached p) n path mem h = go (allows c k p.rights) h
  where
    go : (b : Bool) → IsFault (page_if b k p n) → cond b (accessed path (dirtied k.write p.at mem)) mem ≡ mem
    go true h = absurd h
    go false h = refl
