-- No line of more than 52 bytes is good, so its first 53 bytes say what it asks for. A line's fields, each with a separator, have one byte more than the
-- line; a good line has a letter and at most three fields of at most 16 digits, so 53 with theirs.
use Rattle.std.proofs.Common.{◌≡◌, ℕ, suc, Option, Some, None, ◌+◌, ◌<◌, ◌≤◌, Bool, true, false, cond, ◌&&◌, eqb, ltb, leb, List, [], ◌∷◌, map, length, take, sym, refl, ap, ◌∙◌, arith, length-take-le, take_all, leb-false, leb-true}
use Rattle.rules.proofs.BoolLaws.{either, and_right}
use Rattle.trace.specs.Text.{tab, onto, parted, fields_of}
use Rattle.trace.specs.Numbers.{number_of, value_of}
use Rattle.trace.specs.Orders.{ordered, by_fields, order_of}
use Rattle.trace.specs.Pieces.{enough}
use Rattle.trace.specs.Claims.{Short, Enough}

-- ---- the length of parts, each with a separator
abbrev pub spread : List (List ℕ) → ℕ
spread [] = 0
spread (p ∷ ps) = length p + 1 + spread ps

spread_onto : (b n : ℕ) (ps : List (List ℕ)) → spread ps ≡ n + 1 → spread (onto b ps) ≡ suc n + 1
spread_onto b n [] h = absurd (omega arith)
spread_onto b n (p ∷ ps) h = omega arith

spread_parted : (s : ℕ) (t : List ℕ) → spread (parted s ([] ∷ []) t) ≡ length t + 1
unfolding parted
spread_parted s [] = refl
spread_parted s (b ∷ bs) = go (eqb b s) (parted s ([] ∷ []) bs) (spread_parted s bs)
  where
    go : (t : Bool) (ps : List (List ℕ)) → spread ps ≡ length bs + 1 → spread (cond t ([] ∷ ps) (onto b ps)) ≡ suc (length bs) + 1
    go true ps h = omega arith
    go false ps h = spread_onto b (length bs) ps h

-- ---- a number has at most 16 digits
abbrev Sized : ℕ → Option ℕ → Type 0
Sized n (Some x) = n ≤ 16
Sized n None = Unit

sized : (f : List ℕ) → Sized (length f) (number_of f)
sized f =
    either (Sized (length f)) (ltb 0 (length f) && leb (length f) 16) _ _
    (λ e. low (leb-true _ _ (and_right (ltb 0 (length f)) (leb (length f) 16) e)) (value_of f 0)) (λ e. tt {0})
  where
    low : length f ≤ 16 → (x : Option ℕ) → Sized (length f) x
    low h (Some x) = h
    low h None = tt {0}

ordered_long : (c : ℕ) (fs : List (List ℕ)) → 51 < spread fs → ordered c (map number_of fs) ≡ None
ordered_long c [] h = refl
ordered_long c (f ∷ []) h = go (number_of f) (sized f)
  where
    go : (x : Option ℕ) → Sized (length f) x → ordered c (x ∷ []) ≡ None
    go (Some x) p = absurd (omega arith)
    go None p = refl
ordered_long c (f ∷ g ∷ []) h = go (number_of f) (sized f) (number_of g) (sized g)
  where
    go : (x : Option ℕ) → Sized (length f) x → (y : Option ℕ) → Sized (length g) y → ordered c (x ∷ y ∷ []) ≡ None
    go (Some x) p (Some y) q = absurd (omega arith)
    go (Some x) p None q = refl
    go None p y q = refl
ordered_long c (f ∷ g ∷ k ∷ []) h = go (number_of f) (sized f) (number_of g) (sized g) (number_of k) (sized k)
  where
    go : (x : Option ℕ) → Sized (length f) x → (y : Option ℕ) → Sized (length g) y → (z : Option ℕ) → Sized (length k) z
        → ordered c (x ∷ y ∷ z ∷ []) ≡ None
    go (Some x) p (Some y) q (Some z) r = absurd (omega arith)
    go (Some x) p (Some y) q None r = refl
    go (Some x) p None q z r = refl
    go None p y q z r = refl
ordered_long c (f ∷ g ∷ k ∷ l ∷ fs) h = go (number_of f) (number_of g) (number_of k)
  where
    go : (x y z : Option ℕ) → ordered c (x ∷ y ∷ z ∷ map number_of (l ∷ fs)) ≡ None
    go (Some x) (Some y) (Some z) = refl
    go (Some x) (Some y) None = refl
    go (Some x) None z = refl
    go None y z = refl

fields_long : (fs : List (List ℕ)) → 53 < spread fs → by_fields fs ≡ None
fields_long [] h = refl
fields_long ([] ∷ fs) h = refl
fields_long ((c ∷ []) ∷ fs) h = ordered_long c fs (omega arith)
fields_long ((c ∷ d ∷ bs) ∷ fs) h = refl

pub short : Short
short l h = let e : spread (fields_of l) ≡ length l + 1 = spread_parted tab l in fields_long (fields_of l) (omega arith)

pub enough_says : Enough
enough_says l = go (leb (length l) enough) refl
  where
    go : (b : Bool) → leb (length l) enough ≡ b → order_of (take enough l) ≡ order_of l
    go true e = ap order_of (take_all enough l (leb-true _ _ e))
    go false e =
        let h : enough < length l = leb-false _ _ e in
        let n : length (take enough l) ≡ enough = length-take-le enough l (omega arith) in
        short (take enough l) (omega arith) ∙ sym (short l (omega arith))
