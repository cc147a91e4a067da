-- What a store and a drop leave in each slot; that what is found matches, and that without a match there is nothing to drop.
-- A slot that matches stands in one of its address's own ways, by `SizeLaws`, and `find` looks at all of them.
use Prim.Native.Nat.{ℕ, ◌/◌}
use mathlib.Core.Path.{◌≡◌, refl, ap, sym, ◌∙◌, subst, fun_ext}
use mathlib.Core.Logic.{◌≢◌}
use mathlib.Core.Bool.{Bool, true, false, cond, ◌&&◌, ◌||◌, true≢false}
use mathlib.Core.List.{List, [], ◌∷◌, Memᴰ}
use lib.Dec.{eqb}
use borrow.Author.Tests.{eqb-true, eq-eqb, ne_eqb}
use Rattle.rules.specs.Sizes.{set_of, size_of}
use Rattle.rules.specs.Image.{Slot, Image, none, pcid, is_held, is_global, pcid_in}
use Rattle.rules.specs.Buffer.{contains, matches, Hit, hit, miss, first, find, all_ways, dropped, stored}
use Rattle.rules.proofs.BoolLaws.{and_left, and_right, either, refuted}
use Rattle.rules.proofs.Alike.{AllOf}
use Rattle.rules.proofs.SizeLaws.{size_of_lem, in_all}

-- words 0 to 3
abbrev pub front : Image → List ℕ
front s = s.width ∷ s.flags ∷ s.cr3 ∷ s.victims ∷ []

-- ---- a store
pub stored_same : (i : ℕ) (t : Slot) (s : Image) → (stored i t s).slots i ≡ t
stored_same i t s = rw (eq-eqb i i refl)

pub stored_other : (i j : ℕ) (t : Slot) (s : Image) → j ≢ i → (stored i t s).slots j ≡ s.slots j
stored_other i j t s h = rw (ne_eqb j i h)

pub stored_front : (i : ℕ) (t : Slot) (s : Image) → front (stored i t s) ≡ front s
stored_front i t s = refl

-- ---- a drop
-- an empty slot stays empty
pub none_anyway : (b : Bool) → cond b none none ≡ none
none_anyway true = refl
none_anyway false = refl

module _ (p : ℕ → ℕ → Bool) (s : Image) where
  pub dropped_named : (i : ℕ) → p i (s.slots i).tag ≡ true → (dropped p s).slots i ≡ none
  dropped_named i h = rw h

  pub dropped_kept : (i : ℕ) → p i (s.slots i).tag ≡ false → (dropped p s).slots i ≡ s.slots i
  dropped_kept i h = rw h

  pub dropped_front : front (dropped p s) ≡ front s
  dropped_front = refl

-- ---- the first of a list that a test names
abbrev pub Hits : (ℕ → Type 0) → Hit → Type 0
Hits P (hit i) = P i
Hits P miss = Unit {0}

pub first_all : (P : ℕ → Type 0) (p : ℕ → Bool) (is : List ℕ) → AllOf P is → Hits P (first p is)
first_all P p [] h = tt
first_all P p (j ∷ js) h = either (Hits P) (p j) (hit j) (first p js) (λ e. h.0) (λ e. first_all P p js h.1)

first_true : (p : ℕ → Bool) (is : List ℕ) → Hits (λ i. p i ≡ true) (first p is)
first_true p [] = tt
first_true p (j ∷ js) = either (Hits (λ i. p i ≡ true)) (p j) (hit j) (first p js) (λ e. e) (λ e. first_true p js)

missed : (b : Bool) (i : ℕ) (o : Hit) → cond b (hit i) o ≡ miss → (b ≡ false) × (o ≡ miss)
missed true i o h = (cc, cc)
missed false i o h = (refl, h)

first_miss : (p : ℕ → Bool) {i : ℕ} {is : List ℕ} → Memᴰ i is → first p is ≡ miss → p i ≡ false
first_miss p (Memᴰ.head {x} {xs} e) h = rw e (missed (p x) x (first p xs) h).0
first_miss p (Memᴰ.tail {x} {xs} m) h = first_miss p m (missed (p x) x (first p xs) h).1

-- ---- a slot that matches is held, holds the address, and is global or of that PCID
module _ (p a i t : ℕ) (h : matches p a i t ≡ true) where
  pub match_held : is_held t ≡ true
  match_held = and_left (is_held t) _ (and_left (is_held t && contains a i t) _ h)

  pub match_has : contains a i t ≡ true
  match_has = and_right (is_held t) _ (and_left (is_held t && contains a i t) _ h)

  pub match_own : (is_global t || eqb (pcid_in t) p) ≡ true
  match_own = and_right (is_held t && contains a i t) _ h

-- what is found matches
pub matched : (s : Image) (a i : ℕ) → find s a ≡ hit i → matches (pcid s) a i (s.slots i).tag ≡ true
matched s a i h =
    subst (Hits (λ j. matches (pcid s) a j (s.slots j).tag ≡ true)) h (first_true (λ j. matches (pcid s) a j (s.slots j).tag) (all_ways a))

-- and where nothing is found nothing matches
module _ (s : Image) (a : ℕ) (h : find s a ≡ miss) where
  pub unmatched : (i : ℕ) → matches (pcid s) a i (s.slots i).tag ≡ false
  unmatched i =
      refuted (matches (pcid s) a i (s.slots i).tag) (λ e.
      let own : eqb (i / 4) (set_of (size_of i) a) ≡ true = and_left _ _ (match_has (pcid s) a i (s.slots i).tag e) in
      true≢false
      (sym e
      ∙ first_miss (λ j. matches (pcid s) a j (s.slots j).tag) (in_all (size_of i) a i (size_of_lem i) (eqb-true (i / 4) (set_of (size_of i) a) own)) h))

  pub nothing_dropped : dropped (matches (pcid s) a) s ≡ s
  nothing_dropped =
      ap (λ (f : ℕ → Slot). record { width = s.width; flags = s.flags; cr3 = s.cr3; victims = s.victims; slots = f })
      (fun_ext (λ i. dropped_kept (matches (pcid s) a) s i (unmatched i)))
