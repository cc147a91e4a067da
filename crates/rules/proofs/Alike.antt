-- Two walks over entries that are alike end alike. "Alike" is any relation on entries that keeps what the walk goes by, with one on rights that it
-- hands down; only the entries that the first walk reads have to be alike, and the two addresses need the same index down to where it ends.
-- So the walk is blind to bits 5 and 6, but for the page's dirty flag; and walking leaves every entry as it was but for those bits.
use Prim.Native.Nat.{ℕ, zero, suc, ◌+◌, ◌-◌, ◌/◌, ◌%◌, ◌^◌, ◌≤◌, ◌<◌}
use mathlib.Core.Path.{◌≡◌, refl, ap, sym, ◌∙◌, subst}
use mathlib.Core.List.{List, [], ◌∷◌}
use native.Mathlib.Omega.{arith}
use lib.Dec.{eqb}
use lib.Pow.{field, mod-mod-pow}
use Rattle.rules.specs.Bits.{is_on, part}
use Rattle.rules.specs.Sizes.{shift, Is, page_number}
use Rattle.rules.specs.Image.{nxe}
use Rattle.rules.specs.Entries.{Entry, absent, bad, page, table, is_page, says, next, also}
use Rattle.rules.specs.Walk.{index, place, Leaf, End, reached, stuck, Reach, step, reach}
use Rattle.rules.specs.declared.Size.{Size}
use Rattle.rules.specs.declared.Control.{Control}
use Rattle.rules.specs.declared.Rights.{Rights}
use Rattle.rules.proofs.BitLaws.{bit_low, bit_high, part_high, above}
use Rattle.rules.proofs.SizeLaws.{length_is}
use Rattle.rules.proofs.FormatLaws.{reserved_high}
use Rattle.rules.proofs.WalkLaws.{end_level, end_low}

-- ---- what a relation on entries, and one on rights, has to keep
pub record Keeps (c c' : Control) (R : ℕ → ℕ → Type 0) (Q : Rights → Rights → Type 0) : Type 0 where
  pub kind : (level x y : ℕ) → R x y → says c level x ≡ says c' level y
  pub table : (x y : ℕ) → R x y → next c x ≡ next c' y
  pub base : (level x y : ℕ) → 1 ≤ level → R x y → part c.width (shift level) x ≡ part c'.width (shift level) y
  pub global : (x y : ℕ) → R x y → is_on 8 x ≡ is_on 8 y
  pub rights : (r s : Rights) (x y : ℕ) → Q r s → R x y → Q (also r x) (also s y)

-- ---- when two walks end alike
pub record LeafAlike (Q : Rights → Rights → Type 0) (p q : Leaf) : Type 0 where
  pub at : p.at ≡ q.at
  pub level : p.level ≡ q.level
  pub base : p.base ≡ q.base
  pub rights : Q p.rights q.rights
  pub global : p.global ≡ q.global

abbrev pub EndAlike : (Rights → Rights → Type 0) → End → End → Type 0
EndAlike Q (reached p) (reached q) = LeafAlike Q p q
EndAlike Q (reached p) (stuck cause level) = ⊥
EndAlike Q (stuck cause level) (reached p) = ⊥
EndAlike Q (stuck cause level) (stuck cause' level') = (cause ≡ cause') × (level ≡ level')

pub record Alike (Q : Rights → Rights → Type 0) (v w : Reach) : Type 0 where
  pub end : EndAlike Q v.end w.end
  pub read : v.read ≡ w.read
  pub path : v.path ≡ w.path

-- a property of each element
abbrev pub AllOf : (ℕ → Type 0) → List ℕ → Type 0
AllOf P [] = Unit {0}
AllOf P (x ∷ xs) = P x × AllOf P xs

-- two addresses have the same index at the levels from l up to n
abbrev pub SameIndex : ℕ → ℕ → ℕ → ℕ → Type 0
SameIndex l n a b = (j : ℕ) → l ≤ j → j ≤ n → index j a ≡ index j b

-- two addresses of one page have, down to its level, for the index at a level is the page number's low nine bits, of the page size of that level
index_is : (j a : ℕ) → j ≤ 4 → a % 2 ^ 48 / 2 ^ shift j % 2 ^ 9 ≡ index j a
index_is j a h =
    let p : 48 - shift j + shift j ≡ 48 = omega arith in
    let q : 39 - shift j + 9 ≡ 48 - shift j = omega arith in
    let r : shift j + 9 - shift j ≡ 9 = omega arith in
    rw (r, ← mod-mod-pow (a / 2 ^ shift j) (39 - shift j) 9, q) (ap (λ (x : ℕ). x % 2 ^ 9) (rw p at (field a (48 - shift j) (shift j))))

pub same_index : (z : Size) (a b : ℕ) → Is z → page_number z a ≡ page_number z b → SameIndex z.level 4 a b
same_index z a b q e j h g =
    let s : shift z.level ≤ shift j = omega arith in
    sym (index_is j a g)
    ∙ ap (λ (x : ℕ). x % 2 ^ 9) (above (shift z.level) (shift j) (a % 2 ^ 48) (b % 2 ^ 48) s (rw (length_is z q) at e))
    ∙ index_is j b g

module _ (rd rd' : ℕ → ℕ) (c c' : Control) (R : ℕ → ℕ → Type 0) (Q : Rights → Rights → Type 0) (keeps : Keeps c c' R Q) (a b : ℕ) where
  abbrev AlikeAt : ℕ → Type 0
  AlikeAt at = R (rd at) (rd' at)

  pub reach_alike : (level base : ℕ) (r s : Rights) → Q r s → AllOf AlikeAt (reach rd c a level base r).path
      → SameIndex (end_level (reach rd c a level base r).end) level a b → Alike Q (reach rd c a level base r) (reach rd' c' b level base s)
  reach_alike zero base r s q h same = record { end = (refl, refl); read = refl; path = refl }
  reach_alike (suc n) base r s q h same =
      rw (← same (suc n) (end_low rd c a (suc n) base r (omega arith)) (omega arith))
      (go (says c (suc n) (rd at)) refl h same (λ (g : AlikeAt at). reach_alike n (next c (rd at)) (also r (rd at)) (also s (rd' at)) (keeps.rights r s _ _ q g)))
    where
      at : ℕ
      at = place (suc n) base a

      below : Reach
      below = reach rd c a n (next c (rd at)) (also r (rd at))

      below' : ℕ → Reach
      below' t = reach rd' c' b n t (also s (rd' at))

      go : (v : Entry) → says c (suc n) (rd at) ≡ v → AllOf AlikeAt (step c (suc n) at (rd at) (also r (rd at)) below v).path
          → SameIndex (end_level (step c (suc n) at (rd at) (also r (rd at)) below v).end) (suc n) a b
          → (AlikeAt at → AllOf AlikeAt below.path → SameIndex (end_level below.end) n a b → Alike Q below (below' (next c (rd at))))
          → Alike Q (step c (suc n) at (rd at) (also r (rd at)) below v)
          (step c' (suc n) at (rd' at) (also s (rd' at)) (below' (next c' (rd' at))) (says c' (suc n) (rd' at)))
      go absent e h same ih = rw (sym (keeps.kind (suc n) _ _ h.0) ∙ e) (record { end = (refl, refl); read = refl; path = refl })
      go bad e h same ih = rw (sym (keeps.kind (suc n) _ _ h.0) ∙ e) (record { end = (refl, refl); read = refl; path = refl })
      go page e h same ih =
          rw (sym (keeps.kind (suc n) _ _ h.0) ∙ e)
          (record {
            end =
                record {
                  at = refl;
                  level = refl;
                  base = keeps.base (suc n) _ _ (omega arith) h.0;
                  rights = keeps.rights r s _ _ q h.0;
                  global = keeps.global _ _ h.0;
                };
            read = refl;
            path = refl;
          })
      go table e h same ih =
          let i : Alike Q below (below' (next c' (rd' at))) =
          subst (λ (t : ℕ). Alike Q below (below' t)) (keeps.table _ _ h.0) (ih h.0 h.1 (λ j l g. same j l (omega arith))) in
          rw (sym (keeps.kind (suc n) _ _ h.0) ∙ e)
          (record { end = i.end; read = ap (λ (x : ℕ). 1 + x) i.read; path = ap (λ (l : List ℕ). at ∷ l) i.path })

-- ---- the same number but for bits 5 and 6
pub record ButMarks (x y : ℕ) : Type 0 where
  pub high : x / 2 ^ 7 ≡ y / 2 ^ 7
  pub low : x % 2 ^ 5 ≡ y % 2 ^ 5

module _ (x y : ℕ) (h : ButMarks x y) where
  on_low : (k : ℕ) → k < 5 → is_on k x ≡ is_on k y
  on_low k g = ap (λ (b : ℕ). eqb b 1) (bit_low k 5 x y g h.low)

  on_high : (k : ℕ) → 7 ≤ k → is_on k x ≡ is_on k y
  on_high k g = ap (λ (b : ℕ). eqb b 1) (bit_high 7 k x y g h.high)

  says_marks : (c : Control) (level : ℕ) → 7 ≤ c.width → says c level x ≡ says c level y
  says_marks c level g = rw (on_low 0 (omega arith), on_high 7 (omega arith), reserved_high c level (is_page level y) x y g h.high)

  also_marks : (r : Rights) → also r x ≡ also r y
  also_marks r = rw (on_low 1 (omega arith), on_low 2 (omega arith), on_high 63 (omega arith))

-- ---- what a walk goes by, but for the root
pub record Agree (c c' : Control) : Type 0 where
  pub width : c.width ≡ c'.width
  pub nxe : nxe c.flags ≡ nxe c'.flags

-- the walk is blind to bits 5 and 6
pub blind : (c c' : Control) → Agree c c' → 7 ≤ c.width → Keeps c c' ButMarks (λ r s. r ≡ s)
blind c c' same g =
    record {
      kind = λ level x y h. says_marks x y h c level g ∙ rw (same.width, same.nxe);
      table = λ x y h. rw (← same.width) (part_high 7 c.width 12 x y (omega arith) h.high);
      base = λ level x y l h. rw (← same.width) (part_high 7 c.width (shift level) x y (omega arith) h.high);
      global = λ x y h. on_high x y h 8 (omega arith);
      rights = λ r s x y q h. ap (λ (z : Rights). also z x) q ∙ also_marks x y h s;
    }
