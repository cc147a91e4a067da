-- A field read from an index on, digit by digit, up to what is none.
use Rattle.std.specs.Prelude.{Option, Some, None}
use Prim.Native.Nat.{ℕ, suc, ◌+◌, ◌-◌, ◌*◌, ◌%◌, ◌^◌, ◌≤◌, ◌<◌}
use mathlib.Core.Path.{◌≡◌, refl, sym, ◌∙◌}
use mathlib.Core.Bool.{Bool, true, false, cond, ◌&&◌}
use mathlib.Core.List.{List}
use native.Mathlib.Numerals.{add-one}
use native.Mathlib.Nat.{pow-suc, pow-le-pow_right, lt_of_lt_of_le}
use native.Mathlib.Omega.{arith}
use lib.Dec.{leb, ltb}
use lib.ListN.{length, get_or, drop}
use lib.Seq.{drop-length, length-take-le}
use borrow.Author.Tests.{lt-ltb, le-ltb, leb-true, ltb-true, ltb-false}
use Rattle.rules.proofs.BoolLaws.{and_right}
use Rattle.trace.specs.Text.{tab}
use Rattle.trace.specs.Numbers.{digit_of, value_of}
use Rattle.reading.specs.declared.Number.{Number}
use Rattle.reading.specs.Fields.{width, part_at, next_at, digit_in, found, field_at, ended}
use Rattle.reading.proofs.Parts.{width_le, at_separator, past_other, part_cons}

-- i is past digits only, and value is what they make while there are at most 16
pub record Read (line : List ℕ) (from value i : ℕ) : Type 0 where
  pub low : from ≤ i
  pub high : i ≤ length line
  pub same : i + width tab (drop i line) ≡ from + width tab (drop from line)
  pub small : i ≤ from + 16 → value < 16 ^ (i - from)
  pub left : i ≤ from + 16 → value_of (part_at tab line i) value ≡ value_of (part_at tab line from) 0

-- a digit is below 16, and a tab is none
digit_some : (b d : ℕ) → digit_in b ≡ Some d → (d ≡ digit_of b) × (d < 16)
digit_some b d h = by (ltb (digit_of b) 16) refl h
  where
    by : (t : Bool) → ltb (digit_of b) 16 ≡ t → cond t (Some (digit_of b)) None ≡ Some d → (d ≡ digit_of b) × (d < 16)
    by true e k = let f : d ≡ digit_of b = cc in (f, omega (arith, ltb-true _ _ e, f))
    by false e k = cc

digit_none : (b : ℕ) → digit_in b ≡ None → 16 ≤ digit_of b
digit_none b h = by (ltb (digit_of b) 16) refl h
  where
    by : (t : Bool) → ltb (digit_of b) 16 ≡ t → cond t (Some (digit_of b)) None ≡ None → 16 ≤ digit_of b
    by true e k = cc
    by false e k = ltb-false _ _ e

no_tab : (b d : ℕ) → d ≡ digit_of b → d < 16 → b ≡ tab → ⊥
no_tab b d e l t = let z : d ≡ 16 = rw t at e in omega arith

-- ---- a number by how many digits it has
few : (n : ℕ) → (ltb 0 n && leb n 16) ≡ true → n ≤ 16
few n t = leb-true n 16 (and_right (ltb 0 n) (leb n 16) t)

number_some : (n : ℕ) (m : Option ℕ) (value next : ℕ) → (n ≤ 16 → m ≡ Some value)
    → ended value n next ≡ found (cond (ltb 0 n && leb n 16) m None) next
number_some n m value next h = by (ltb 0 n && leb n 16) (few n)
  where
    by : (t : Bool) → (t ≡ true → n ≤ 16) → cond t (Some (record { value = value; next = next })) None ≡ found (cond t m None) next
    by true k = rw (h (k refl))
    by false k = refl

number_none : (n : ℕ) (m : Option ℕ) (next : ℕ) → (n ≤ 16 → m ≡ None) → None ≡ found (cond (ltb 0 n && leb n 16) m None) next
number_none n m next h = by (ltb 0 n && leb n 16) (few n)
  where
    by : (t : Bool) → (t ≡ true → n ≤ 16) → None ≡ found (cond t m None) next
    by true k = rw (h (k refl))
    by false k = refl

module _ (line : List ℕ) (from value i : ℕ) (r : Read line from value i) where
  kept : i + 1 ≤ from + 16 → value % 0x1000_0000_0000_0000 ≡ value
  kept l =
      let k : i - from ≤ 15 = omega arith in
      let b : value < 16 ^ 15 = lt_of_lt_of_le (r.small (omega arith)) (pow-le-pow_right {n = 16} (omega arith) k) in
      omega arith

  part_length : length (part_at tab line from) ≡ width tab (drop from line)
  part_length = length-take-le _ _ (width_le tab (drop from line))

  module _ (q : Option ℕ) (h : i < length line) (e : q ≡ digit_in (get_or line i 0)) where
    pub read_more : (d : ℕ) → q ≡ Some d → Read line from (value % 0x1000_0000_0000_0000 * 16 + d) (i + 1)
    unfolding value_of
    read_more d f =
        let b : ℕ = get_or line i 0 in
        let s : (d ≡ digit_of b) × (d < 16) = digit_some b d (sym e ∙ f) in
        let o = no_tab b d s.0 s.1 in
        let p = past_other tab line i h o in
        let n : i + 1 ≤ from + 16 → i + 1 - from ≡ suc (i - from) = λ l. omega arith in
        record {
          low = omega arith;
          high = omega arith;
          same = rw (add-one i) (omega arith);
          small = λ l. rw (kept l, n l, pow-suc) (omega (arith, r.small (omega arith), s.1));
          left = λ l. sym (rw (kept l, ← r.left (omega arith), part_cons tab line i h o, ← s.0, lt-ltb _ _ s.1, add-one i));
        }

    pub read_bad : q ≡ None → (get_or line i 0 ≡ tab → ⊥) → None ≡ field_at line from
    unfolding value_of
    read_bad f o =
        number_none (length (part_at tab line from)) _ _
        (λ (l : length (part_at tab line from) ≤ 16).
        let p = past_other tab line i h o in
        let n : 16 ≤ digit_of (get_or line i 0) = digit_none (get_or line i 0) (sym e ∙ f) in
        rw (← r.left (omega (arith, part_length)), part_cons tab line i h o, le-ltb _ _ n))

  -- the field ends here
  done : width tab (drop i line) ≡ 0 → ended value (i - from) (i + 1) ≡ field_at line from
  unfolding value_of
  done z =
      let w : length (part_at tab line from) ≡ i - from = omega (arith, part_length) in
      let n : next_at tab line from ≡ i + 1 = omega arith in
      rw (n, w) (number_some (i - from) _ value (i + 1) (λ l. rw (← r.left (omega arith), z)))

  pub read_tab : (q : Option Number) → i < length line → get_or line i 0 ≡ tab → q ≡ ended value (i - from) (i + 1) → q ≡ field_at line from
  read_tab q h e f = f ∙ done (at_separator tab line i h e)

  pub read_end : (q : Option Number) → length line ≤ i → q ≡ ended value (i - from) (i + 1) → q ≡ field_at line from
  unfolding width
  read_end q h f = let e : i ≡ length line = omega arith in f ∙ done (rw (e, drop-length))
