-- What the masked compares of the code say in the rules' terms.
-- A number under a mask of neighbouring bits is those bits where they stand, and two such numbers are equal if each part of them is.
use Prim.Native.Nat.{ℕ, ◌+◌, ◌-◌, ◌*◌, ◌/◌, ◌%◌, ◌^◌, ◌≤◌, ◌<◌}
use mathlib.Core.Path.{◌≡◌, refl, ap, sym, ◌∙◌}
use mathlib.Core.Bool.{Bool, true, false, ◌&&◌, not}
use native.Mathlib.Omega.{arith}
use lib.Dec.{eqb}
use lib.Pow.{shr-shr, mod-pow-add}
use lib.Bits.{bit_and, bit_xor, xor_add_and, xor_shr, xor_mod, xor_self, and_le_l, and_zero_r, and_mask, and_high, and_le_r}
use borrow.Author.Tests.{eq-eqb, ne_eqb, eqb-true, eqb-false}
use Rattle.rules.specs.Image.{is_held, is_global, pcid_in, page_in}
use Rattle.rules.specs.Buffer.{of_pcid}
use Rattle.words.proofs.Masks.{and_split, and_below}
use Rattle.sets.specs.Ways.{is_masked}

-- ---- an equation that holds with another, or with another two
same_test : (x y u v : ℕ) → (u ≡ v → x ≡ y) → (x ≡ y → u ≡ v) → eqb x y ≡ eqb u v
same_test x y u v f g = go (eqb u v) refl
  where
    go : (b : Bool) → eqb u v ≡ b → eqb x y ≡ b
    go true e = eq-eqb x y (f (eqb-true u v e))
    go false e = ne_eqb x y (λ (q : x ≡ y). eqb-false u v e (g q))

both_tests : (x y u v m n : ℕ) → (u ≡ v → m ≡ n → x ≡ y) → (x ≡ y → u ≡ v) → (x ≡ y → m ≡ n) → eqb x y ≡ (eqb u v && eqb m n)
both_tests x y u v m n f g h = go (eqb u v) (eqb m n) refl refl
  where
    go : (b c : Bool) → eqb u v ≡ b → eqb m n ≡ c → eqb x y ≡ (b && c)
    go true true d e = eq-eqb x y (f (eqb-true u v d) (eqb-true m n e))
    go true false d e = ne_eqb x y (λ (q : x ≡ y). eqb-false m n e (h q))
    go false c d e = ne_eqb x y (λ (q : x ≡ y). eqb-false u v d (g q))

off : (x : ℕ) → x < 2 → not (eqb x 1) ≡ eqb x 0
off x h = go (eqb x 1) refl
  where
    go : (b : Bool) → eqb x 1 ≡ b → not b ≡ eqb x 0
    go true e = let q : x ≡ 1 = eqb-true x 1 e in rw q
    go false e = let q : x ≡ 1 → ⊥ = eqb-false x 1 e in sym (eq-eqb x 0 (omega arith))

not_global_lem : (t : ℕ) → not (is_global t) ≡ eqb (t / 2 ^ 1 % 2) 0
not_global_lem t = off (t / 2 ^ 1 % 2) (omega arith)

-- ---- the masks
pub test_nothing : (t : ℕ) → is_masked 0 0 t ≡ true
test_nothing t = rw (and_zero_r t)

pub test_not_global : (t : ℕ) → is_masked 2 0 t ≡ not (is_global t)
test_not_global t =
    rw (and_high t 1 1, not_global_lem t) (same_test (t / 2 ^ 1 % 2 ^ 1 * 2 ^ 1) 0 (t / 2 ^ 1 % 2) 0 (λ h. omega arith) (λ h. omega arith))

pub test_of_pcid : (p t : ℕ) → is_masked 0x3FFE (p * 4) t ≡ of_pcid p t
test_of_pcid p t =
    let d : t / 2 ^ 1 % 2 ^ 13 ≡ pcid_in t * 2 + t / 2 ^ 1 % 2 = rw (shr-shr t 1 1) at (mod-pow-add (t / 2 ^ 1) 12 1) in
    rw (and_high t 13 1, not_global_lem t, d) (go (pcid_in t) (t / 2 ^ 1 % 2) (omega arith))
  where
    go : (x y : ℕ) → y < 2 → eqb ((x * 2 + y) * 2 ^ 1) (p * 4) ≡ (eqb x p && eqb y 0)
    go x y g =
        both_tests ((x * 2 + y) * 2 ^ 1) (p * 4) x p y 0 (λ h k. omega arith) (λ h. omega arith)
        (λ h. let e : x ≡ p = omega arith in omega arith)

pub test_held : (t : ℕ) → is_masked 1 1 t ≡ is_held t
test_held t = rw (and_mask t 1) (same_test (t % 2 ^ 1) 1 (t / 2 ^ 0 % 2) 1 (λ h. omega arith) (λ h. omega arith))

pub test_global : (t : ℕ) → is_masked 2 2 t ≡ is_global t
test_global t = rw (and_high t 1 1) (same_test (t / 2 ^ 1 % 2 ^ 1 * 2 ^ 1) 2 (t / 2 ^ 1 % 2) 1 (λ h. omega arith) (λ h. omega arith))

pub test_pcid : (p t : ℕ) → is_masked 0x3FFC (p * 4) t ≡ eqb (pcid_in t) p
test_pcid p t = rw (and_high t 12 2) (same_test (pcid_in t * 2 ^ 2) (p * 4) (pcid_in t) p (λ h. omega arith) (λ h. omega arith))

-- ---- a page number, and a mask below it
module _ (mask t : ℕ) (h : mask < 2 ^ 14) where
  page_and : bit_and t (0x3FFFFFFFFC000 + mask) ≡ page_in t * 2 ^ 14 + bit_and (t % 2 ^ 14) mask
  page_and = and_split 14 t mask h (2 ^ 36 - 1) ∙ ap (λ (x : ℕ). x * 2 ^ 14 + bit_and (t % 2 ^ 14) mask) (and_mask (t / 2 ^ 14) 36)

  pub test_page : (n want : ℕ) → want < 2 ^ 14 → is_masked (0x3FFFFFFFFC000 + mask) (n * 0x4000 + want) t ≡ (eqb (page_in t) n && is_masked mask want t)
  test_page n want g =
      let l : bit_and (t % 2 ^ 14) mask ≤ mask = and_le_r (t % 2 ^ 14) mask in
      rw (page_and, and_below 14 t mask h)
      (both_tests (page_in t * 2 ^ 14 + bit_and (t % 2 ^ 14) mask) (n * 0x4000 + want) (page_in t) n (bit_and (t % 2 ^ 14) mask) want
      (λ d e. omega arith) (λ d. omega arith) (λ d. omega arith))

-- ---- where a tag differs from that of a held page: nowhere under the mask of page number and held bit, if it is that page's and held
no_difference : (x y : ℕ) → bit_xor x y ≡ 0 → x ≡ y
no_difference x y e = omega (arith, xor_add_and x y, and_le_l x y, and_le_r x y)

pub test_same : (t n : ℕ) → n < 2 ^ 36 → eqb (bit_and (bit_xor t (n * 0x4000 + 1)) 0x3FFFFFFFFC001) 0 ≡ (is_held t && eqb (page_in t) n)
test_same t n h =
    let w : (n * 0x4000 + 1) / 2 ^ 14 ≡ n = omega arith in
    let m : n % 2 ^ 36 ≡ n = omega arith in
    let page : page_in (bit_xor t (n * 0x4000 + 1)) ≡ bit_xor (page_in t) n = rw (xor_shr t (n * 0x4000 + 1) 14, w, xor_mod (t / 2 ^ 14) n 36, m) in
    let v : (n * 0x4000 + 1) % 2 ^ 1 ≡ 1 = omega arith in
    let low : bit_xor t (n * 0x4000 + 1) % 2 ^ 14 % 2 ^ 1 ≡ bit_xor t (n * 0x4000 + 1) % 2 ^ 1 = omega arith in
    let held : bit_and (bit_xor t (n * 0x4000 + 1) % 2 ^ 14) 1 ≡ bit_xor (t % 2 ^ 1) 1 =
    and_mask (bit_xor t (n * 0x4000 + 1) % 2 ^ 14) 1 ∙ low ∙ xor_mod t (n * 0x4000 + 1) 1 ∙ ap (bit_xor (t % 2 ^ 1)) v in
    let one : t / 2 ^ 0 % 2 ≡ t % 2 ^ 1 = omega arith in
    rw (page_and 1 (bit_xor t (n * 0x4000 + 1)) (omega arith), page, held, one)
    (both_tests (bit_xor (page_in t) n * 2 ^ 14 + bit_xor (t % 2 ^ 1) 1) 0 (t % 2 ^ 1) 1 (page_in t) n (λ d e. rw (d, e, xor_self n))
    (λ d. no_difference (t % 2 ^ 1) 1 (omega arith)) (λ d. no_difference (page_in t) n (omega arith)))
