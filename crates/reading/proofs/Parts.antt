-- A text's parts between separators: the first is what stands before the first separator, and then come the parts of what stands after it.
use Prim.Native.Nat.{ℕ, suc, ◌+◌, ◌≤◌, ◌<◌}
use mathlib.Core.Path.{◌≡◌, refl}
use mathlib.Core.Bool.{Bool, true, false, cond}
use mathlib.Core.List.{List, [], ◌∷◌}
use native.Mathlib.Omega.{arith}
use lib.Dec.{eqb}
use lib.ListN.{length, get_or, take, drop, length-drop}
use lib.Seq.{drop-cons, drop-drop}
use borrow.Author.Tests.{eqb-true, eq-eqb, ne_eqb}
use Rattle.trace.specs.Text.{onto, parted}
use Rattle.reading.specs.Fields.{width, part_at, next_at}

module _ (s : ℕ) where
  -- no part is longer than the text
  pub width_le : (t : List ℕ) → width s t ≤ length t
  unfolding width
  width_le [] = omega arith
  width_le (b ∷ bs) = step (eqb b s) (width_le bs)
    where
      step : (q : Bool) → width s bs ≤ length bs → cond q 0 (suc (width s bs)) ≤ suc (length bs)
      step true h = omega arith
      step false h = omega arith

  -- up to a separator, whatever stands for nothing after the last
  pub parted_more : (e : List (List ℕ)) (t : List ℕ) → width s t < length t
      → parted s e t ≡ take (width s t) t ∷ parted s e (drop (suc (width s t)) t)
  unfolding width parted
  parted_more e [] h = absurd (omega arith)
  parted_more e (b ∷ bs) h = step (eqb b s) h (parted_more e bs)
    where
      step : (q : Bool) → cond q 0 (suc (width s bs)) < suc (length bs)
          → (width s bs < length bs → parted s e bs ≡ take (width s bs) bs ∷ parted s e (drop (suc (width s bs)) bs))
          → cond q ([] ∷ parted s e bs) (onto b (parted s e bs))
          ≡ take (cond q 0 (suc (width s bs))) (b ∷ bs) ∷ parted s e (drop (cond q 0 (suc (width s bs))) bs)
      step true l f = refl
      step false l f = rw (f (omega arith))

  -- and there the separator stands
  pub separator_at : (t : List ℕ) → width s t < length t → drop (width s t) t ≡ s ∷ drop (suc (width s t)) t
  unfolding width
  separator_at [] h = absurd (omega arith)
  separator_at (b ∷ bs) h = step (eqb b s) (eqb-true b s) h (separator_at bs)
    where
      step : (q : Bool) → (q ≡ true → b ≡ s) → cond q 0 (suc (width s bs)) < suc (length bs)
          → (width s bs < length bs → drop (width s bs) bs ≡ s ∷ drop (suc (width s bs)) bs)
          → drop (cond q 0 (suc (width s bs))) (b ∷ bs) ≡ s ∷ drop (cond q 0 (suc (width s bs))) bs
      step true e l f = rw (e refl)
      step false e l f = f (omega arith)

-- ---- the same by index
module _ (s : ℕ) (t : List ℕ) (i : ℕ) (h : i < length t) where
  pub at_separator : get_or t i 0 ≡ s → width s (drop i t) ≡ 0
  unfolding width
  at_separator e = rw (drop-cons t i 0 h, eq-eqb _ _ e)

  module _ (e : get_or t i 0 ≡ s → ⊥) where
    pub past_other : width s (drop i t) ≡ suc (width s (drop (suc i) t))
    unfolding width
    past_other = rw (drop-cons t i 0 h, ne_eqb _ _ e)

    pub part_cons : part_at s t i ≡ get_or t i 0 ∷ part_at s t (suc i)
    part_cons = rw (past_other, drop-cons t i 0 h)

module _ (s : ℕ) (t : List ℕ) (from : ℕ) where
  -- past the last separator a part is all that is left
  pub rest_width : from ≤ length t → length t < next_at s t from → width s (drop from t) ≡ length (drop from t)
  rest_width h g = let w = width_le s (drop from t) in let d = length-drop from t in omega arith

  module _ (e : List (List ℕ)) where
    pub parts_more : next_at s t from ≤ length t → parted s e (drop from t) ≡ part_at s t from ∷ parted s e (drop (next_at s t from) t)
    parts_more h =
        let l : width s (drop from t) < length (drop from t) = simp length-drop (omega arith) in
        let n : from + suc (width s (drop from t)) ≡ next_at s t from = omega arith in
        rw (parted_more s e (drop from t) l, drop-drop, n)
