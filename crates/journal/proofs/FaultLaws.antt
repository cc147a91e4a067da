-- Faults in a list, and in the list with one more report: which are there, which are distinct, how many come before the first of one, how often one
-- comes, how many are of others. Each law goes by induction over the list, and there by whether a fault is the one asked for.
use Prim.Native.Nat.{ℕ, zero, suc, ◌+◌, ◌<◌}
use mathlib.Core.Path.{◌≡◌, refl, ap, sym, ◌∙◌}
use mathlib.Core.Bool.{Bool, true, false, cond, ◌||◌, ◌&&◌, false≢true, or-true}
use mathlib.Core.List.{List, [], ◌∷◌, ◌++◌, append-nil}
use native.Mathlib.Numerals.{add-one}
use native.Mathlib.Omega.{arith}
use lib.Dec.{eqb}
use lib.ListN.{length, take}
use borrow.Author.Tests.{eqb-true, eq-eqb}
use Rattle.rules.proofs.BoolLaws.{or_left, or_right, and_left, and_right, either}
use Rattle.journal.specs.Journal.{Fault, is_same}
use Rattle.journal.specs.History.{has, without, distinct, before, times, others}

-- ---- the same fault
pub same_self : (f : Fault) → is_same f f ≡ true
same_self f = rw (eq-eqb f.page f.page refl, eq-eqb f.code f.code refl, eq-eqb f.root f.root refl)

pub same_is : (f g : Fault) → is_same f g ≡ true → f ≡ g
same_is f g h =
    let a : Bool = eqb f.page g.page in
    let b : Bool = eqb f.code g.code in
    let d : Bool = eqb f.root g.root in
    let p = eqb-true f.page g.page (and_left a b (and_left (a && b) d h)) in
    let c = eqb-true f.code g.code (and_right a b (and_left (a && b) d h)) in
    let r = eqb-true f.root g.root (and_right (a && b) d h) in
    λ i. record { page = p i; code = c i; root = r i }

pub same_swap : (f g : Fault) → is_same f g ≡ is_same g f
same_swap f g = go (is_same f g) (is_same g f) refl refl
  where
    go : (a b : Bool) → is_same f g ≡ a → is_same g f ≡ b → a ≡ b
    go true true e d = refl
    go false false e d = refl
    go true false e d = absurd (false≢true (sym d ∙ rw (same_is f g e) (same_self g)))
    go false true e d = absurd (false≢true (sym e ∙ rw (same_is g f d) (same_self f)))

-- ---- tests, over plain variables
or_alike : (b m n : Bool) → (b ≡ false → m ≡ n) → (b || m) ≡ (b || n)
or_alike true m n f = refl
or_alike false m n f = f refl

or_grows : (b m n : Bool) → (m ≡ true → n ≡ true) → (b || m) ≡ true → (b || n) ≡ true
or_grows true m n f h = refl
or_grows false m n f h = f h

-- ---- a fault in a list
pub has_take : (f : Fault) (n : ℕ) (l : List Fault) → has f (take n l) ≡ true → has f l ≡ true
has_take f zero l h = absurd (false≢true h)
has_take f (suc n) [] h = h
has_take f (suc n) (x ∷ l) h = or_grows (is_same x f) _ _ (has_take f n l) h

has_snoc : (f g : Fault) (l : List Fault) → is_same g f ≡ false → has f (l ++ (g ∷ [])) ≡ has f l
has_snoc f g [] e = rw e
has_snoc f g (x ∷ l) e = or_alike (is_same x f) _ _ (λ _. has_snoc f g l e)

pub has_new : (f : Fault) (l : List Fault) → has f (l ++ (f ∷ [])) ≡ true
has_new f [] = rw (same_self f)
has_new f (x ∷ l) = rw (has_new f l) (or-true (is_same x f))

without_case : (f g x : Fault) (l : List Fault) (b : Bool) → is_same x f ≡ b → is_same f g ≡ false → has g (without f l) ≡ has g l
    → has g (cond b (without f l) (x ∷ without f l)) ≡ (is_same x g || has g l)
without_case f g x l true e n h = rw (same_is x f e, n, h)
without_case f g x l false e n h = rw h

has_without : (f g : Fault) (l : List Fault) → is_same f g ≡ false → has g (without f l) ≡ has g l
has_without f g [] n = refl
has_without f g (x ∷ l) n = without_case f g x l (is_same x f) refl n (has_without f g l n)

pub has_distinct : (f : Fault) (l : List Fault) → has f (distinct l) ≡ has f l
has_distinct f [] = refl
has_distinct f (x ∷ l) = or_alike (is_same x f) _ _ (λ n. has_without x f (distinct l) n ∙ has_distinct f l)

-- ---- no fault stands twice
abbrev pub Apart : List Fault → Type 0
Apart [] = Unit {0}
Apart (x ∷ l) = (has x l ≡ false) × Apart l

gone : (f : Fault) (l : List Fault) → has f (without f l) ≡ false
gone f [] = refl
gone f (x ∷ l) = either (λ (r : List Fault). has f r ≡ false) (is_same x f) _ _ (λ e. gone f l) (λ e. rw (e, gone f l))

fewer : (f g : Fault) (l : List Fault) → has g l ≡ false → has g (without f l) ≡ false
fewer f g [] h = refl
fewer f g (x ∷ l) h =
    let ih : has g (without f l) ≡ false = fewer f g l (or_right (is_same x g) (has g l) h) in
    either (λ (r : List Fault). has g r ≡ false) (is_same x f) _ _ (λ e. ih) (λ e. rw (or_left (is_same x g) (has g l) h, ih))

apart_without : (f : Fault) (l : List Fault) → Apart l → Apart (without f l)
apart_without f [] a = a
apart_without f (x ∷ l) a =
    let ih : Apart (without f l) = apart_without f l a.1 in
    either Apart (is_same x f) _ _ (λ e. ih) (λ e. (fewer f x l a.0, ih))

pub apart_distinct : (l : List Fault) → Apart (distinct l)
apart_distinct [] = tt {0}
apart_distinct (x ∷ l) = (gone x (distinct l), apart_without x (distinct l) (apart_distinct l))

taken : (f : Fault) (n : ℕ) (l : List Fault) → has f l ≡ false → has f (take n l) ≡ false
taken f zero l h = refl
taken f (suc n) [] h = refl
taken f (suc n) (x ∷ l) h = rw (or_left (is_same x f) (has f l) h, taken f n l (or_right (is_same x f) (has f l) h))

pub apart_take : (n : ℕ) (l : List Fault) → Apart l → Apart (take n l)
apart_take zero l a = tt {0}
apart_take (suc n) [] a = a
apart_take (suc n) (x ∷ l) a = (taken x n l a.0, apart_take n l a.1)

-- ---- one more report
without_snoc : (f g : Fault) (l : List Fault) → without f (l ++ (g ∷ [])) ≡ without f l ++ cond (is_same g f) [] (g ∷ [])
without_snoc f g [] = refl
without_snoc f g (x ∷ l) = go (is_same x f) _ _ _ (without_snoc f g l)
  where
    go : (b : Bool) (a c d : List Fault) → a ≡ c ++ d → cond b a (x ∷ a) ≡ cond b c (x ∷ c) ++ d
    go true a c d e = e
    go false a c d e = ap (λ (r : List Fault). x ∷ r) e

distinct_case : (x f : Fault) (d : List Fault) (b m : Bool) → is_same f x ≡ b
    → x ∷ without x (cond m d (d ++ (f ∷ []))) ≡ cond (b || m) (x ∷ without x d) (x ∷ (without x d ++ (f ∷ [])))
distinct_case x f d true true e = refl
distinct_case x f d false true e = refl
distinct_case x f d true false e = rw (without_snoc x f d, e, append-nil)
distinct_case x f d false false e = rw (without_snoc x f d, e)

pub distinct_snoc : (f : Fault) (l : List Fault) → distinct (l ++ (f ∷ [])) ≡ cond (has f l) (distinct l) (distinct l ++ (f ∷ []))
distinct_snoc f [] = refl
distinct_snoc f (x ∷ l) = rw (distinct_snoc f l) (distinct_case x f (distinct l) (is_same x f) (has f l) (same_swap f x))

pub before_snoc : (x f : Fault) (l : List Fault) → has x l ≡ true → before x (l ++ (f ∷ [])) ≡ before x l
before_snoc x f [] h = absurd (false≢true h)
before_snoc x f (y ∷ l) h = go (is_same y x) (has x l) h (before_snoc x f l)
  where
    go : {i j : ℕ} (b m : Bool) → (b || m) ≡ true → (m ≡ true → i ≡ j) → cond b 0 (i + 1) ≡ cond b 0 (j + 1)
    go true m h f = refl
    go false m h f = ap (λ (n : ℕ). n + 1) (f h)

pub before_new : (f : Fault) (l : List Fault) → has f l ≡ false → before f (l ++ (f ∷ [])) ≡ length l
before_new f [] h = rw (same_self f)
before_new f (y ∷ l) h = rw (or_left (is_same y f) (has f l) h, before_new f l (or_right (is_same y f) (has f l) h)) (add-one (length l))

pub times_snoc : (x f : Fault) (l : List Fault) → times x (l ++ (f ∷ [])) ≡ times x l + cond (is_same f x) 1 0
times_snoc x f [] = omega arith
times_snoc x f (y ∷ l) = rw (times_snoc x f l) (omega arith)

pub times_some : (x : Fault) (l : List Fault) → has x l ≡ true → 0 < times x l
times_some x [] h = absurd (false≢true h)
times_some x (y ∷ l) h = go (is_same y x) (has x l) h (times_some x l)
  where
    go : {t : ℕ} (b m : Bool) → (b || m) ≡ true → (m ≡ true → 0 < t) → 0 < cond b 1 0 + t
    go true m h f = omega arith
    go false m h f = let p = f h in omega (arith, p)

pub times_none : (x : Fault) (l : List Fault) → has x l ≡ false → times x l ≡ 0
times_none x [] h = refl
times_none x (y ∷ l) h = rw (or_left (is_same y x) (has x l) h, times_none x l (or_right (is_same y x) (has x l) h))

pub others_snoc : (fs : List Fault) (f : Fault) (l : List Fault) → others fs (l ++ (f ∷ [])) ≡ others fs l + cond (has f fs) 0 1
others_snoc fs f [] = omega arith
others_snoc fs f (y ∷ l) = rw (others_snoc fs f l) (omega arith)

-- a fault that is in none of these reports makes no difference among those they are held to
pub others_more : (fs : List Fault) (f : Fault) (l : List Fault) → has f l ≡ false → others (fs ++ (f ∷ [])) l ≡ others fs l
others_more fs f [] h = refl
others_more fs f (y ∷ l) h =
    rw (has_snoc y f fs (same_swap f y ∙ or_left (is_same y f) (has f l) h), others_more fs f l (or_right (is_same y f) (has f l) h))
