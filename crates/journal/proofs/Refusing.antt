-- The ways through refusal 9. Counts or-ed together are above the limit exactly if one of them is, since the limit is all ones.
use Prim.Native.Nat.{ℕ, ◌+◌, ◌*◌, ◌/◌, ◌^◌, ◌≤◌, ◌<◌}
use mathlib.Core.Path.{◌≡◌, refl, sym, ◌∙◌}
use mathlib.Core.Bool.{true, false, ◌&&◌, ◌||◌, not, or_assoc}
use mathlib.Core.List.{List}
use native.Mathlib.Omega.{arith}
use native.Mathlib.Numerals.{add-one}
use native.Mathlib.Decide.{dec_lt}
use lib.Bits.{bit_or, or_shr}
use lib.Dec.{eqb, ltb}
use lib.ListN.{length}
use borrow.Author.Tests.{lt-ltb, le-ltb, eq-eqb, ne_eqb, eqb-true, not-false}
use Rattle.rules.specs.Bits.{word_at}
use Rattle.rules.proofs.BoolLaws.{same}
use Rattle.words.proofs.Masks.{zero_or}
use Rattle.journal.specs.Journal.{limit, decode}
use Rattle.journal.specs.Calls.{is_long, is_over, is_unfit}
use Rattle.journal.proofs.JournalLaws.{held_at_lem, lost_at, reports_at, repeats_at}

-- ---- counts or-ed
high : (x : ℕ) → ltb limit x ≡ not (eqb (x / 2 ^ 32) 0)
high x = go (dec_lt limit x)
  where
    go : Dec (limit < x) → ltb limit x ≡ not (eqb (x / 2 ^ 32) 0)
    go (yes h) = rw (lt-ltb limit x h, ne_eqb (x / 2 ^ 32) 0 (omega arith))
    go (no h) = rw (le-ltb limit x (omega arith), eq-eqb (x / 2 ^ 32) 0 (omega arith))

or_over : (a b : ℕ) → ltb limit (bit_or a b) ≡ (ltb limit a || ltb limit b)
or_over a b =
    rw (high (bit_or a b), high a, high b, or_shr a b 32, zero_or)
    (same 2 (λ p q. not (p && q)) (λ p q. not p || not q) refl (eqb (a / 2 ^ 32) 0) (eqb (b / 2 ^ 32) 0))

-- ---- the repeats of the held records
module _ (b : List ℕ) where
  pub repeats_read : (i r : ℕ) → i < 64 → r ≡ word_at b (96 + i * 40) → r ≡ ((decode b).records i).repeats
  repeats_read i r h e = e ∙ sym (repeats_at b i h)

  module _ (n acc : ℕ) where
    pub one_gathered : (i r : ℕ) → r ≡ ((decode b).records i).repeats → ltb limit acc ≡ (ltb limit n || is_over i (decode b).records)
        → ltb limit (bit_or acc r) ≡ (ltb limit n || is_over (i + 1) (decode b).records)
    one_gathered i r e h = rw (add-one i, or_over acc r, h, e) (or_assoc (ltb limit n) _ _)

  -- ---- the refusal
  module _ (t : not (is_long b) ≡ false) (held : ℕ) (e : held ≡ word_at b 0) where
    h : length b ≡ 2624
    h = eqb-true (length b) 2624 (not-false (is_long b) t)

    pub too_many : 64 < held → true ≡ is_unfit b
    too_many g = rw (eq-eqb (length b) 2624 h, held_at_lem b, ← e, lt-ltb 64 held g)

    module _ (g : held ≤ 64) (l r x : ℕ) (p : l ≡ word_at b 8) (q : r ≡ word_at b 16)
        (s : ltb limit x ≡ (ltb limit (bit_or l r) || is_over held (decode b).records)) where
      unfit_is : ltb limit x ≡ is_unfit b
      unfit_is = rw (eq-eqb (length b) 2624 h, held_at_lem b, lost_at b, reports_at b, ← e, ← p, ← q, le-ltb 64 held g) (s ∙ rw (or_over l r))

      pub one_over : limit < x → true ≡ is_unfit b
      one_over k = sym (lt-ltb limit x k) ∙ unfit_is

      pub none_over : x ≤ limit → false ≡ is_unfit b
      none_over k = sym (le-ltb limit x k) ∙ unfit_is
