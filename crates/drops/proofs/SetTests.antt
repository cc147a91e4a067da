-- Which slots stand from one on and before another, which are a set's, and which an address's own: a slot has one size, by its set, so of the three sizes'
-- sets at most one is its own.
use Prim.Native.Nat.{ℕ, ◌+◌, ◌*◌, ◌/◌, ◌≤◌, ◌<◌}
use mathlib.Core.Path.{◌≡◌, refl, ap, ◌∙◌}
use mathlib.Core.Bool.{Bool, true, false, ◌&&◌, ◌||◌, or-false}
use native.Mathlib.Omega.{arith}
use native.Mathlib.Decide.{dec_lt}
use lib.Dec.{leb, ltb, eqb}
use borrow.Author.Tests.{lt-ltb, le-ltb, le-leb, lt-leb, ne_eqb, eqb-true, eqb-false, leb-true, ltb-true}
use Rattle.rules.specs.Sizes.{small, middle, large, set_of}
use Rattle.rules.specs.Buffer.{contains}
use Rattle.rules.proofs.BoolLaws.{and_left, and_right, refuted}
use Rattle.drops.specs.Drops.{is_asked, is_from, masked_of}

says : (l h i : ℕ) → is_from l h i ≡ true → (l ≤ i) × (i < h)
says l h i e = (leb-true l i (and_left (leb l i) (ltb i h) e), ltb-true i h (and_right (leb l i) (ltb i h) e))

outside : (l h i : ℕ) → (l ≤ i → i < h → ⊥) → is_from l h i ≡ false
outside l h i f = refuted (is_from l h i) (λ e. f (says l h i e).0 (says l h i e).1)

pub from_none : (l i : ℕ) → is_from l l i ≡ false
from_none l i = outside l l i (λ f g. omega arith)

pub from_all : (i : ℕ) → i < 100 → is_from 0 100 i ≡ true
from_all i g = rw (le-leb 0 i (omega arith), lt-ltb i 100 g)

-- those of two ranges, one after the other
pub joined : (l m h i : ℕ) → l ≤ m → m ≤ h → (is_from l m i || is_from m h i) ≡ is_from l h i
joined l m h i f g = go (dec_lt i m)
  where
    go : Dec (i < m) → (is_from l m i || is_from m h i) ≡ is_from l h i
    go (yes q) = rw (lt-ltb i m q, lt-ltb i h (omega arith), lt-leb m i q) (or-false _)
    go (no q) = rw (le-leb l i (omega arith), le-leb m i (omega arith), le-ltb i m (omega arith))

-- of the one slot from i on, a test is that of slot i
pub in_one : (p : ℕ → Bool) (i j : ℕ) → (is_from i (i + 1) j && p j) ≡ (is_from i (i + 1) j && p i)
in_one p i j = go (is_from i (i + 1) j) refl
  where
    go : (c : Bool) → is_from i (i + 1) j ≡ c → (c && p j) ≡ (c && p i)
    go true e = let q : j ≡ i = omega (arith, (says i (i + 1) j e).0, (says i (i + 1) j e).1) in ap p q
    go false e = refl

pub in_set_lem : (set i : ℕ) → is_from (4 * set) (4 * set + 4) i ≡ eqb (i / 4) set
in_set_lem set i = go (eqb (i / 4) set) refl
  where
    go : (b : Bool) → eqb (i / 4) set ≡ b → is_from (4 * set) (4 * set + 4) i ≡ b
    go true e =
        let q : i / 4 ≡ set = eqb-true (i / 4) set e in
        rw (le-leb (4 * set) i (omega arith), lt-ltb i (4 * set + 4) (omega arith))
    go false e = outside (4 * set) (4 * set + 4) i (λ f g. eqb-false (i / 4) set e (omega arith))

pub any_size : (a mask want own whose i t : ℕ)
    → (masked_of small a mask want own whose i t || masked_of middle a mask want own whose i t || masked_of large a mask want own whose i t)
    ≡ (contains a i t && is_asked mask want own whose t)
any_size a mask want own whose i t = go (dec_lt (i / 4) 16) (dec_lt (i / 4) 24)
  where
    go : Dec (i / 4 < 16) → Dec (i / 4 < 24)
        → (masked_of small a mask want own whose i t || masked_of middle a mask want own whose i t || masked_of large a mask want own whose i t)
        ≡ (contains a i t && is_asked mask want own whose t)
    go (yes g) k =
        rw (lt-ltb (i / 4) 16 g, ne_eqb (i / 4) (set_of middle a) (omega arith), ne_eqb (i / 4) (set_of large a) (omega arith))
        (or-false _ ∙ or-false _)
    go (no g) (yes k) =
        rw (
          le-ltb (i / 4) 16 (omega arith),
          lt-ltb (i / 4) 24 k,
          ne_eqb (i / 4) (set_of small a) (omega arith),
          ne_eqb (i / 4) (set_of large a) (omega arith),
        )
        (or-false _)
    go (no g) (no k) =
        rw (
          le-ltb (i / 4) 16 (omega arith),
          le-ltb (i / 4) 24 (omega arith),
          ne_eqb (i / 4) (set_of small a) (omega arith),
          ne_eqb (i / 4) (set_of middle a) (omega arith),
        )
