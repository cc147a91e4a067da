-- What a line asks for, field by field: one law a way out of `order`.
use Prim.Native.Nat.{ℕ, suc, ◌≤◌, ◌<◌}
use Rattle.std.specs.Prelude.{Option, Some, None}
use mathlib.Core.Path.{◌≡◌, refl, sym, ◌∙◌, ap, ap₂}
use mathlib.Core.Bool.{Bool, true, false, cond}
use mathlib.Core.List.{List, [], ◌∷◌, map}
use native.Mathlib.Omega.{arith}
use native.Mathlib.Decide.{dec_le}
use lib.Dec.{eqb}
use lib.ListN.{length, get_or, drop}
use lib.Seq.{take-length}
use borrow.Author.Tests.{eqb-true, eq-eqb, ne_eqb}
use Rattle.trace.specs.Text.{tab, onto, parted, fields_of}
use Rattle.trace.specs.Numbers.{number_of}
use Rattle.trace.specs.Orders.{with_one, with_two, with_three, ordered, by_fields, order_of}
use Rattle.trace.specs.declared.Order.{Order}
use Rattle.reading.specs.declared.Number.{Number}
use Rattle.reading.specs.Fields.{width, part_at, next_at, found, field_at}
use Rattle.reading.proofs.Parts.{parts_more, rest_width}

-- ---- the letter
pub line_short : (line : List ℕ) → length line < 2 → None ≡ order_of line
unfolding parted
line_short [] h = refl
line_short (b ∷ []) h = alone (eqb b tab)
  where
    alone : (q : Bool) → None ≡ by_fields (cond q ([] ∷ [] ∷ []) ((b ∷ []) ∷ []))
    alone true = refl
    alone false = refl
line_short (b ∷ d ∷ bs) h = absurd (omega arith)

-- two bytes before the first tab, or a tab at the start
pub line_joined : (line : List ℕ) → 2 ≤ length line → (get_or line 1 0 ≡ tab → ⊥) → None ≡ order_of line
unfolding parted
line_joined [] h o = absurd (omega arith)
line_joined (b ∷ []) h o = absurd (omega arith)
line_joined (b ∷ d ∷ bs) h o = rw (ne_eqb d tab o) (both (eqb b tab) (fields_of bs))
  where
    both : (q : Bool) (fs : List (List ℕ)) → None ≡ by_fields (cond q ([] ∷ onto d fs) (onto b (onto d fs)))
    both true fs = refl
    both false [] = refl
    both false (f ∷ fs) = refl

-- a tab is no letter
ordered_tab : (ns : List (Option ℕ)) → None ≡ ordered tab ns
ordered_tab [] = refl
ordered_tab (None ∷ ns) = refl
ordered_tab (Some x ∷ []) = refl
ordered_tab (Some x ∷ None ∷ ns) = refl
ordered_tab (Some x ∷ Some y ∷ []) = refl
ordered_tab (Some x ∷ Some y ∷ None ∷ ns) = refl
ordered_tab (Some x ∷ Some y ∷ Some z ∷ []) = refl
ordered_tab (Some x ∷ Some y ∷ Some z ∷ n ∷ ns) = refl

-- the numbers of the fields from an index on
abbrev numbers_from : List ℕ → ℕ → List (Option ℕ)
numbers_from line from = map number_of (fields_of (drop from line))

lettered : (line : List ℕ) → 2 ≤ length line → get_or line 1 0 ≡ tab → order_of line ≡ ordered (get_or line 0 0) (numbers_from line 2)
unfolding parted
lettered [] h e = absurd (omega arith)
lettered (b ∷ []) h e = absurd (omega arith)
lettered (b ∷ d ∷ bs) h e = rw (eq-eqb d tab e) (by (eqb b tab) (eqb-true b tab))
  where
    by : (q : Bool) → (q ≡ true → b ≡ tab) → by_fields (cond q ([] ∷ [] ∷ fields_of bs) ((b ∷ []) ∷ fields_of bs)) ≡ ordered b (map number_of (fields_of bs))
    by true k = rw (k refl) (ordered_tab (map number_of (fields_of bs)))
    by false k = refl

-- ---- one field more
fields_last : (t : List ℕ) → width tab t ≡ length t → fields_of t ≡ t ∷ []
unfolding width parted
fields_last [] h = refl
fields_last (b ∷ bs) h = step (eqb b tab) h (fields_last bs)
  where
    step : (q : Bool) → cond q 0 (suc (width tab bs)) ≡ suc (length bs) → (width tab bs ≡ length bs → fields_of bs ≡ bs ∷ [])
        → cond q ([] ∷ fields_of bs) (onto b (fields_of bs)) ≡ (b ∷ bs) ∷ []
    step true g f = absurd (omega arith)
    step false g f = ap (onto b) (f (omega arith))

found_number : (m : Option ℕ) (k : ℕ) (x : Number) → found m k ≡ Some x → (m ≡ Some x.value) × (k ≡ x.next)
found_number (Some n) k x h =
    let e : ◌≡◌ {A = Number} (record { value = n; next = k }) x = cc in
    (ap (λ (f : Number). Some f.value) e, ap (λ (f : Number). f.next) e)
found_number None k x h = cc

found_bad : (m : Option ℕ) (k : ℕ) → found m k ≡ None → m ≡ None
found_bad (Some n) k h = cc
found_bad None k h = refl

module _ (line : List ℕ) (from : ℕ) (h : from ≤ length line) where
  field_last : length line < next_at tab line from → fields_of (drop from line) ≡ part_at tab line from ∷ []
  field_last l = let w = rest_width tab line from h l in rw (w, take-length) (fields_last (drop from line) w)

  field_more : next_at tab line from ≤ length line → fields_of (drop from line) ≡ part_at tab line from ∷ fields_of (drop (next_at tab line from) line)
  field_more = parts_more tab line from ([] ∷ [])

  -- there is a field, with others after it or not
  abbrev others : Dec (next_at tab line from ≤ length line) → List (List ℕ)
  others (yes l) = fields_of (drop (next_at tab line from) line)
  others (no l) = []

  field_some : (d : Dec (next_at tab line from ≤ length line)) → fields_of (drop from line) ≡ part_at tab line from ∷ others d
  field_some (yes l) = field_more l
  field_some (no l) = field_last (omega arith)

  abbrev rest : List (Option ℕ)
  rest = map number_of (others (dec_le (next_at tab line from) (length line)))

  number_some : numbers_from line from ≡ number_of (part_at tab line from) ∷ rest
  number_some = ap (map number_of) (field_some (dec_le (next_at tab line from) (length line)))

  module _ (q : Option Number) (e : q ≡ field_at line from) where
    number_bad : q ≡ None → numbers_from line from ≡ None ∷ rest
    number_bad f = number_some ∙ ap (λ (m : Option ℕ). m ∷ rest) (found_bad _ _ (sym e ∙ f))

    module _ (x : Number) (f : q ≡ Some x) where
      is : (number_of (part_at tab line from) ≡ Some x.value) × (next_at tab line from ≡ x.next)
      is = found_number _ _ x (sym e ∙ f)

      number_last : length line < x.next → numbers_from line from ≡ Some x.value ∷ []
      number_last l = ap (map number_of) (field_last (omega (arith, is.1))) ∙ ap (λ (m : Option ℕ). m ∷ []) is.0

      number_more : x.next ≤ length line → numbers_from line from ≡ Some x.value ∷ numbers_from line x.next
      number_more l =
          ap (map number_of) (field_more (omega (arith, is.1)))
          ∙ ap₂ (λ (m : Option ℕ) (n : ℕ). m ∷ numbers_from line n) is.0 is.1

-- ---- the ways out, once the line starts with a byte and a tab
module _ (line : List ℕ) (h : 2 ≤ length line) (t : get_or line 1 0 ≡ tab) where
  module _ (q : Option Number) (e : q ≡ field_at line 2) where
    pub first_bad : q ≡ None → None ≡ order_of line
    first_bad b = rw (lettered line h t, number_bad line 2 h q e b)

    module _ (x : Number) (f : q ≡ Some x) where
      pub one_number : (o : Option Order) → length line < x.next → o ≡ with_one (get_or line 0 0) x.value → o ≡ order_of line
      one_number o l g = rw (lettered line h t, number_last line 2 h q e x f l) g

      module _ (h₂ : x.next ≤ length line) (q₂ : Option Number) (e₂ : q₂ ≡ field_at line x.next) where
        after_one : order_of line ≡ ordered (get_or line 0 0) (Some x.value ∷ numbers_from line x.next)
        after_one = rw (lettered line h t, number_more line 2 h q e x f h₂)

        pub second_bad : q₂ ≡ None → None ≡ order_of line
        second_bad b = rw (after_one, number_bad line x.next h₂ q₂ e₂ b)

        module _ (y : Number) (f₂ : q₂ ≡ Some y) where
          pub two_numbers : (o : Option Order) → length line < y.next → o ≡ with_two (get_or line 0 0) x.value y.value → o ≡ order_of line
          two_numbers o l g = rw (after_one, number_last line x.next h₂ q₂ e₂ y f₂ l) g

          module _ (h₃ : y.next ≤ length line) (q₃ : Option Number) (e₃ : q₃ ≡ field_at line y.next) where
            after_two : order_of line ≡ ordered (get_or line 0 0) (Some x.value ∷ Some y.value ∷ numbers_from line y.next)
            after_two = rw (after_one, number_more line x.next h₂ q₂ e₂ y f₂ h₃)

            pub third_bad : q₃ ≡ None → None ≡ order_of line
            third_bad b = rw (after_two, number_bad line y.next h₃ q₃ e₃ b)

            module _ (z : Number) (f₃ : q₃ ≡ Some z) where
              pub three_numbers : (o : Option Order) → length line < z.next → o ≡ with_three (get_or line 0 0) x.value y.value z.value → o ≡ order_of line
              three_numbers o l g = rw (after_two, number_last line y.next h₃ q₃ e₃ z f₃ l) g

              pub too_many : z.next ≤ length line → None ≡ order_of line
              too_many h₄ = rw (after_two, number_more line y.next h₃ q₃ e₃ z f₃ h₄, number_some line z.next h₄)
