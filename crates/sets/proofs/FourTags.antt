-- The tags of a set's four ways, read together: their `or` is odd if one of them is held.
use Prim.Native.Nat.{ℕ, ◌+◌, ◌*◌, ◌/◌, ◌%◌, ◌^◌, ◌<◌}
use mathlib.Core.Path.{◌≡◌, refl, ap, ap₂, sym, ◌∙◌}
use mathlib.Core.Bool.{Bool, false, ◌||◌}
use mathlib.Core.List.{List}
use native.Mathlib.Omega.{arith}
use native.Mathlib.Nat.{div-one}
use lib.ListN.{get_or}
use lib.Dec.{eqb}
use lib.Bits.{bit_or}
use Rattle.rules.specs.Bits.{is_on, word_at}
use Rattle.rules.specs.Sizes.{page_number, set_of, ways}
use Rattle.rules.specs.Image.{is_held}
use Rattle.rules.specs.declared.Size.{Size}
use Rattle.rules.proofs.BoolLaws.{same}
use Rattle.rules.proofs.PlaceLaws.{tag_at_lem}
use Rattle.words.proofs.Laws.{word_next}
use Rattle.words.proofs.Masks.{or_on}
use Rattle.sets.specs.Ways.{tag_in, any_held}

-- ---- of two
abbrev is_odd : ℕ → Bool
is_odd n = eqb (n % 2) 1

odd_is : (n : ℕ) → is_odd n ≡ is_on 0 n
odd_is n = ap (λ (x : ℕ). eqb (x % 2) 1) (sym (div-one n))

odd_or : (a b : ℕ) → is_odd (bit_or a b) ≡ (is_odd a || is_odd b)
odd_or a b = odd_is (bit_or a b) ∙ or_on 0 a b ∙ ap₂ ◌||◌ (sym (odd_is a)) (sym (odd_is b))

-- ---- of the four
-- a tag is held if its lowest byte is odd
low_byte : (b : List ℕ) (i at : ℕ) → i < 100 → at ≡ 32 + i * 16 → is_odd (get_or b at 0) ≡ is_held (tag_in b i)
low_byte b i at h k =
    let e : get_or b at 0 % 2 ≡ tag_in b i / 2 ^ 0 % 2 = omega (arith, tag_at_lem b i h, ap (word_at b) k, word_next 7 at b) in
    ap (λ (x : ℕ). eqb x 1) e

pub any_odd : (z : Size) (b : List ℕ) (a n s : ℕ) → n ≡ page_number z a → s ≡ z.first + n % z.sets → s < 25
    → is_odd (bit_or (bit_or (bit_or (get_or b (32 + s * 64) 0) (get_or b (32 + s * 64 + 16) 0)) (get_or b (32 + s * 64 + 32) 0)) (get_or b (32 + s * 64 + 48) 0))
    ≡ any_held b (ways z a)
any_odd z b a n s en es h =
    let q : set_of z a ≡ s = sym (es ∙ ap (λ (x : ℕ). z.first + x % z.sets) en) in
    let at : ℕ = 32 + s * 64 in
    rw (
      q,
      ← low_byte b (4 * s) at (omega arith) (omega arith),
      ← low_byte b (4 * s + 1) (at + 16) (omega arith) (omega arith),
      ← low_byte b (4 * s + 2) (at + 32) (omega arith) (omega arith),
      ← low_byte b (4 * s + 3) (at + 48) (omega arith) (omega arith),
    )
    (go (get_or b at 0) (get_or b (at + 16) 0) (get_or b (at + 32) 0) (get_or b (at + 48) 0))
  where
    go : (x₀ x₁ x₂ x₃ : ℕ) → is_odd (bit_or (bit_or (bit_or x₀ x₁) x₂) x₃) ≡ (is_odd x₀ || (is_odd x₁ || (is_odd x₂ || (is_odd x₃ || false))))
    go x₀ x₁ x₂ x₃ =
        rw (odd_or (bit_or (bit_or x₀ x₁) x₂) x₃, odd_or (bit_or x₀ x₁) x₂, odd_or x₀ x₁)
        (same 4 (λ p q r t. ((p || q) || r) || t) (λ p q r t. p || (q || (r || (t || false)))) refl (is_odd x₀) (is_odd x₁) (is_odd x₂) (is_odd x₃))
