-- The digits' values, by the ranges of their bytes. Bit 5 tells the cases of a letter apart, so a byte without it is in one range exactly if the byte is in one of two.
use Prim.Native.Nat.{ℕ, ◌+◌, ◌-◌, ◌*◌, ◌/◌, ◌%◌, ◌≤◌, ◌<◌}
use mathlib.Core.Path.{◌≡◌, refl, sym, ◌∙◌}
use mathlib.Core.Logic.{◌⊎◌, inl, inr, ⊎_elim}
use mathlib.Core.Bool.{Bool, true, false, ◌&&◌, ◌||◌, true≢false, or-true}
use native.Mathlib.Omega.{arith}
use native.Mathlib.Decide.{dec_lt}
use lib.Dec.{leb}
use borrow.Author.Tests.{le-leb, leb-true, lt-ltb}
use Rattle.rules.proofs.BoolLaws.{and_left, and_right, refuted}
use Rattle.trace.specs.Numbers.{digit_of}
use Rattle.reading.specs.Fields.{digit_in}
use Rattle.std.specs.Prelude.{Some, None}

abbrev is_in : ℕ → ℕ → ℕ → Bool
is_in a z x = leb a x && leb x z

in_range : (a z x : ℕ) → is_in a z x ≡ true → (a ≤ x) × (x ≤ z)
in_range a z x h = (leb-true a x (and_left (leb a x) (leb x z) h), leb-true x z (and_right (leb a x) (leb x z) h))

range_in : (a z x : ℕ) → a ≤ x → x ≤ z → is_in a z x ≡ true
range_in a z x p q = rw (le-leb a x p, le-leb x z q)

either_true : (p q : Bool) → (p || q) ≡ true → (p ≡ true) ⊎ (q ≡ true)
either_true true q h = inl refl
either_true false q h = inr h

-- a byte without bit 5
abbrev upper : ℕ → ℕ
upper b = b / 64 * 64 + b % 32

abbrev is_letter : ℕ → Bool
is_letter b = is_in 65 70 b || is_in 97 102 b

module _ (b : ℕ) where
  letter_in : (65 ≤ upper b) × (upper b ≤ 70) → is_letter b ≡ true
  letter_in r = go (dec_lt b 96)
    where
      go : Dec (b < 96) → is_letter b ≡ true
      go (yes l) = rw (range_in 65 70 b (omega arith) (omega arith))
      go (no g) = rw (range_in 97 102 b (omega arith) (omega arith)) (or-true (is_in 65 70 b))

  letter_out : is_in 65 70 (upper b) ≡ false → is_letter b ≡ false
  letter_out h = refuted _ (λ t. ⊎_elim (λ p. low (in_range 65 70 b p)) (λ p. high (in_range 97 102 b p)) (either_true _ _ t))
    where
      no : 65 ≤ upper b → upper b ≤ 70 → ⊥
      no p q = true≢false (sym (range_in 65 70 (upper b) p q) ∙ h)

      low : (65 ≤ b) × (b ≤ 70) → ⊥
      low r = no (omega arith) (omega arith)

      high : (97 ≤ b) × (b ≤ 102) → ⊥
      high r = no (omega arith) (omega arith)

  digit_is : (d : ℕ) → d ≡ digit_of b → d < 16 → Some d ≡ digit_in b
  digit_is d e l = rw (← e, lt-ltb d 16 l)

  pub digit_decimal : is_in 48 57 b ≡ true → Some (b - 48) ≡ digit_in b
  digit_decimal h = let r : (48 ≤ b) × (b ≤ 57) = in_range 48 57 b h in digit_is (b - 48) (rw h (omega arith)) (omega arith)

  pub digit_letter : is_in 48 57 b ≡ false → is_in 65 70 (upper b) ≡ true → Some (upper b - 55) ≡ digit_in b
  digit_letter n h =
      let r : (65 ≤ upper b) × (upper b ≤ 70) = in_range 65 70 (upper b) h in
      digit_is (upper b - 55) (rw (n, letter_in r) (omega arith)) (omega arith)

  pub digit_none : is_in 48 57 b ≡ false → is_in 65 70 (upper b) ≡ false → None ≡ digit_in b
  digit_none n h = rw (n, letter_out h)
