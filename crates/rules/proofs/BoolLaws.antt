-- What a disjunction that is false, and a conjunction that is true, say of their parts; a choice, by its test; and an identity, by computing it.
use Prim.Native.Nat.{ℕ, zero, suc}
use mathlib.Core.Path.{◌≡◌, refl, sym}
use mathlib.Core.Bool.{Bool, true, false, cond, ◌&&◌, ◌||◌, true≢false, and-eq-true_iff, beq}

pub or_left : (p q : Bool) → (p || q) ≡ false → p ≡ false
or_left true q h = h
or_left false q h = refl

pub or_right : (p q : Bool) → (p || q) ≡ false → q ≡ false
or_right true q h = absurd (true≢false h)
or_right false q h = h

pub and_left : (p q : Bool) → (p && q) ≡ true → p ≡ true
and_left p q h = ((and-eq-true_iff p q).0 h).0

pub and_right : (p q : Bool) → (p && q) ≡ true → q ≡ true
and_right p q h = ((and-eq-true_iff p q).0 h).1

pub either : {A : Type 0} (P : A → Type 0) (b : Bool) (x y : A) → (b ≡ true → P x) → (b ≡ false → P y) → P (cond b x y)
either P true x y f g = f refl
either P false x y f g = g refl

pub refuted : (b : Bool) → (b ≡ true → ⊥) → b ≡ false
refuted true h = absurd (h refl)
refuted false h = refl

-- ---- an identity of n Booleans, computed over all their values
abbrev pub Fun : ℕ → Type 0
Fun zero = Bool
Fun (suc n) = Bool → Fun n

abbrev pub Same : (n : ℕ) → Fun n → Fun n → Type 0
Same zero p q = p ≡ q
Same (suc n) f g = (b : Bool) → Same n (f b) (g b)

abbrev pub agree : (n : ℕ) → Fun n → Fun n → Bool
agree zero p q = beq p q
agree (suc n) f g = agree n (f true) (g true) && agree n (f false) (g false)

pub same : (n : ℕ) (f g : Fun n) → agree n f g ≡ true → Same n f g
same zero true true h = refl
same zero true false h = sym h
same zero false true h = h
same zero false false h = refl
same (suc n) f g h =
    let (t, u) = (and-eq-true_iff (agree n (f true) (g true)) (agree n (f false) (g false))).0 h in
    elim [ true ↦ same n (f true) (g true) t | false ↦ same n (f false) (g false) u ]
