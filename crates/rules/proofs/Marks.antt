-- What a walk marks stays marked while memory only grows, and marking once more what is marked changes nothing.
use Prim.Native.Nat.{ℕ, ◌<◌}
use mathlib.Core.Path.{◌≡◌, refl, ap, sym, ◌∙◌, subst}
use mathlib.Core.Bool.{Bool, true, false, cond, ◌||◌}
use mathlib.Core.List.{List, [], ◌∷◌}
use native.Mathlib.Omega.{arith}
use Rattle.rules.specs.Bits.{is_on}
use Rattle.rules.specs.Memory.{Memory, entry_at, added, Whole}
use Rattle.rules.specs.Entries.{everything, allows}
use Rattle.rules.specs.Walk.{top, Leaf, End, reached, stuck, Reach, accessed, dirtied, marked, reach_in, walk}
use Rattle.rules.specs.declared.Control.{Control}
use Rattle.rules.specs.declared.Access.{Access}
use Rattle.rules.specs.declared.Rights.{Rights}
use Rattle.rules.proofs.BoolLaws.{either}
use Rattle.rules.proofs.BitLaws.{set_on}
use Rattle.rules.proofs.MemoryLaws.{same_entry, added_already}
use Rattle.rules.proofs.WalkLaws.{is_leaf}
use Rattle.rules.proofs.Alike.{AllOf, EndAlike, Alike}
use Rattle.rules.proofs.Grown.{Eight, LeafEight, Eights, eights, Grown, grown_none, grown_added, grown_accessed}

-- ---- every entry on a walk's way is marked as accessed and, for one that writes, the page's as dirty
abbrev On : ℕ → Memory → ℕ → Type 0
On k mem at = is_on k (entry_at mem at) ≡ true

abbrev pub LeafOn : Memory → End → Type 0
LeafOn mem (reached p) = On 6 mem p.at
LeafOn mem (stuck cause level) = Unit {0}

pub record Marked (write : Bool) (w : Reach) (mem : Memory) : Type 0 where
  pub path : AllOf (On 5 mem) w.path
  pub leaf : write ≡ true → LeafOn mem w.end

-- ---- it stays so
all_grown : (path : List ℕ) (mem mem' : Memory) → Grown mem mem' → AllOf Eight path → AllOf (On 5 mem) path → AllOf (On 5 mem') path
all_grown [] mem mem' g h on = tt
all_grown (at ∷ path) mem mem' g h on = (g.stays 5 at h.0 on.0, all_grown path mem mem' g h.1 on.1)

pub marked_grown : (x y : Bool) (w : Reach) (mem mem' : Memory) → (y ≡ true → x ≡ true) → Eights w → Grown mem mem' → Marked x w mem → Marked y w mem'
marked_grown x y w mem mem' f h g m =
    record { path = all_grown w.path mem mem' g h.path m.path; leaf = λ e. go w.end h.leaf (m.leaf (f e)) }
  where
    go : (e : End) → LeafEight e → LeafOn mem e → LeafOn mem' e
    go (reached p) h on = g.stays 6 p.at h on
    go (stuck cause level) h on = tt

-- and is so of any walk that ends alike
pub marked_alike : (Q : Rights → Rights → Type 0) (x : Bool) (v w : Reach) (mem : Memory) → Alike Q v w → Marked x v mem → Marked x w mem
marked_alike Q x v w mem a m = record { path = subst (AllOf (On 5 mem)) a.path m.path; leaf = λ e. go v.end w.end a.end (m.leaf e) }
  where
    go : (e e' : End) → EndAlike Q e e' → LeafOn mem e → LeafOn mem e'
    go (reached p) (reached q) h on = subst (On 6 mem) h.at on
    go (reached p) (stuck cause level) h on = absurd h
    go (stuck cause level) (reached q) h on = absurd h
    go (stuck cause level) (stuck cause' level') h on = tt

-- ---- a walk that finds a page marks so; the page's entry is dirty besides if it was before
added_on : (k at : ℕ) (mem : Memory) → k < 8 → On k (added k at mem) at
added_on k at mem h = rw (same_entry k at mem h) (set_on k (entry_at mem at))

accessed_on : (path : List ℕ) (mem : Memory) → AllOf Eight path → AllOf (On 5 (accessed path mem)) path
accessed_on [] mem h = tt
accessed_on (at ∷ path) mem h = (
  added_on 5 at (accessed path mem) (omega arith),
  all_grown path (accessed path mem) _ (grown_added 5 at (accessed path mem) (omega arith) (omega arith) h.0) h.1 (accessed_on path mem h.1),
)

dirtied_on : (w : Bool) (path : List ℕ) (at : ℕ) (mem : Memory) → AllOf Eight path → Eight at → (w || is_on 6 (entry_at mem at)) ≡ true
    → On 6 (accessed path (dirtied w at mem)) at
dirtied_on true path at mem h e d =
    (grown_accessed (added 6 at mem) path (added 6 at mem) h (grown_none _)).stays 6 at e (added_on 6 at mem (omega arith))
dirtied_on false path at mem h e d = (grown_accessed mem path mem h (grown_none mem)).stays 6 at e d

pub walk_marks : (c : Control) (k : Access) (a : ℕ) (mem : Memory) (p : Leaf) → Eight c.root → (reach_in mem c a).end ≡ reached p
    → allows c k p.rights ≡ true → Marked (k.write || p.dirty) (reach_in mem c a) (walk c k a mem).memory
walk_marks c k a mem p h e g =
    let i : Eights (reach_in mem c a) = eights (entry_at mem) c a (top c) c.root everything h in
    subst (Marked (k.write || p.dirty) (reach_in mem c a)) (sym left)
    (record {
      path = accessed_on (reach_in mem c a).path _ i.path;
      leaf =
          λ d.
          subst (LeafOn _) (sym e)
          (dirtied_on k.write (reach_in mem c a).path p.at mem i.path (subst LeafEight e i.leaf)
          (ap (λ (x : Bool). k.write || x) (sym (is_leaf mem c a p e).dirty) ∙ d));
    })
  where
    left : (walk c k a mem).memory ≡ accessed (reach_in mem c a).path (dirtied k.write p.at mem)
    left =
        ap (λ (x : End). marked c k x (reach_in mem c a).path mem) e
        ∙ ap (λ (x : Bool). cond x (accessed (reach_in mem c a).path (dirtied k.write p.at mem)) mem) g

-- ---- what is marked is not changed
module _ (mem : Memory) (whole : Whole mem) where
  accessed_same : (path : List ℕ) → AllOf Eight path → AllOf (On 5 mem) path → accessed path mem ≡ mem
  accessed_same [] h on = refl
  accessed_same (at ∷ path) h on =
      ap (added 5 at) (accessed_same path h.1 on.1) ∙ sym (added_already 5 at mem h.0 whole (omega arith) on.0)

  dirtied_same : (w : Bool) (at : ℕ) → Eight at → (w ≡ true → On 6 mem at) → dirtied w at mem ≡ mem
  dirtied_same true at h on = sym (added_already 6 at mem h whole (omega arith) (on refl))
  dirtied_same false at h on = refl

  pub marked_same : (c : Control) (k : Access) (w : Reach) → Eights w → Marked k.write w mem → marked c k w.end w.path mem ≡ mem
  marked_same c k w h m = go w.end h.leaf m.leaf
    where
      go : (e : End) → LeafEight e → (k.write ≡ true → LeafOn mem e) → marked c k e w.path mem ≡ mem
      go (stuck cause level) i on = refl
      go (reached p) i on =
          either (λ (x : Memory). x ≡ mem) (allows c k p.rights) _ mem
          (λ e. ap (accessed w.path) (dirtied_same k.write p.at i on) ∙ accessed_same w.path h.path m.path) (λ e. refl)
