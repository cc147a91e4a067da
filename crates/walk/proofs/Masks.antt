-- What the code's masks say in the rules' terms: what a turned entry lacks, the bits that bar the way to a next table, what an access needs. A mask is
-- taken apart flag by flag, and what is left is an identity of Booleans.
use Prim.Native.Nat.{ℕ, ◌+◌, ◌-◌, ◌*◌, ◌/◌, ◌%◌, ◌^◌, ◌≤◌, ◌<◌}
use mathlib.Core.Path.{◌≡◌, refl, ap, sym, ◌∙◌}
use mathlib.Core.Bool.{Bool, true, false, ◌&&◌, ◌||◌, not}
use native.Mathlib.Omega.{arith}
use native.Mathlib.Nat.{zero-add, add_assoc, div-one, lt_of_lt_of_le}
use lib.Dec.{eqb}
use lib.Pow.{field, mod-pow-add, high_ones, pow_mono}
use lib.Bits.{bit_and, bit_or, bit_xor, and_mask, xor_shr, xor_mod, xor_zero_r}
use borrow.Author.Tests.{ne_eqb}
use Rattle.rules.specs.Bits.{is_on, part, one}
use Rattle.rules.specs.Image.{nxe}
use Rattle.rules.specs.Entries.{also}
use Rattle.rules.specs.declared.Control.{Control}
use Rattle.rules.proofs.BoolLaws.{same}
use Rattle.rules.proofs.BitLaws.{bit_high, part_high, one_le, on_one}
use Rattle.rules.proofs.FormatLaws.{is_common}
use Rattle.words.proofs.Masks.{and_one, and_split, and_below, and_flag, or_on}
use Rattle.formats.proofs.Laws.{common_sum}
use Rattle.walk.specs.Packed.{turned, rights_of, accessed_in, bad_of}

pub not_not : (b : Bool) → not (not b) ≡ b
not_not true = refl
not_not false = refl

-- ---- bits that are turned over. Of a turned entry these are 0, 1, 2, 5 and 6, and from 7 on it is the entry
pub xor_over : (k e m : ℕ) → m / 2 ^ k % 2 ≡ 1 → is_on k (bit_xor e m) ≡ not (is_on k e)
xor_over k e m h =
    rw (xor_shr e m k, xor_mod (e / 2 ^ k) (m / 2 ^ k) 1, h)
    (ap (λ (p : ℕ). eqb (bit_xor p 1) 1) (on_one k e) ∙ same 1 (λ p. eqb (bit_xor (one p) 1) 1) not refl (is_on k e))

pub turn_over : (k e : ℕ) → 0x67 / 2 ^ k % 2 ≡ 1 → is_on k (turned e) ≡ not (is_on k e)
turn_over k e h = xor_over k e 0x67 h

pub turn_high : (e : ℕ) → turned e / 2 ^ 7 ≡ e / 2 ^ 7
turn_high e = xor_shr e 0x67 7 ∙ xor_zero_r (e / 2 ^ 7)

pub turn_on : (k e : ℕ) → 7 ≤ k → is_on k (turned e) ≡ is_on k e
turn_on k e h = ap (λ (p : ℕ). eqb p 1) (bit_high 7 k _ _ h (turn_high e))

pub turn_part : (h l e : ℕ) → 7 ≤ l → part h l (turned e) ≡ part h l e
turn_part h l e g = part_high 7 h l _ _ g (turn_high e)

-- ---- what is lacking so far and in an entry
-- a bit that is turned over stays clear where the entry has it
has : (k s e : ℕ) → 0x67 / 2 ^ k % 2 ≡ 1 → not (is_on k (bit_or s (turned e))) ≡ (not (is_on k s) && is_on k e)
has k s e h =
    rw (or_on k s (turned e), turn_over k e h) (same 2 (λ p q. not (p || not q)) (λ p q. not p && q) refl (is_on k s) (is_on k e))

pub rights_or : (s e : ℕ) → rights_of (bit_or s (turned e)) ≡ also (rights_of s) e
rights_or s e =
    rw (has 1 s e refl, has 2 s e refl, or_on 63 s (turned e), turn_on 63 e (omega arith), same 2 (λ p q. not (p || q)) (λ p q. not p && not q) refl (is_on 63 s) (is_on 63 e))

pub accessed_or : (s e : ℕ) → accessed_in (bit_or s (turned e)) ≡ (accessed_in s && is_on 5 e)
accessed_or s e = has 5 s e refl

-- ---- the bits that bar the way: those that every row has, bit 0, and where it is asked for bit 7
zero_test : (b f p : Bool) (w : ℕ) → eqb (one b * 2 ^ 63 + (w + (one f * 128 + one p))) 0 ≡ (not p && not f && not (not (eqb w 0) || b))
zero_test true f p w =
    ne_eqb _ _ (λ (q : one true * 2 ^ 63 + (w + (one f * 128 + one p)) ≡ 0). omega arith)
    ∙ same 3 (λ t f p. false) (λ t f p. not p && not f && not (not t || true)) refl (eqb w 0) f p
zero_test false true p w =
    ne_eqb _ _ (λ (q : one false * 2 ^ 63 + (w + (one true * 128 + one p)) ≡ 0). omega arith)
    ∙ same 2 (λ t p. false) (λ t p. not p && false && not (not t || false)) refl (eqb w 0) p
zero_test false false true w = ne_eqb _ _ (λ (q : one false * 2 ^ 63 + (w + (one false * 128 + one true)) ≡ 0). omega arith)
zero_test false false false w =
    let e : one false * 2 ^ 63 + (w + (one false * 128 + one false)) ≡ w = omega arith in
    rw e (same 1 (λ t. t) (λ t. true && true && not (not t || false)) refl (eqb w 0))

module _ (c : Control) (e : ℕ) (wide : 36 ≤ c.width) (narrow : c.width ≤ 52) where
  abbrev w : ℕ
  w = c.width

  -- bits 51 down to the width, over a smaller mask
  high_and : (t low : ℕ) → low < 2 ^ 36 → bit_and t (2 ^ 52 - 2 ^ w + low) ≡ part 52 w t + bit_and t low
  high_and t low h =
      let q : 52 - w + w ≡ 52 = omega arith in
      let l : low < 2 ^ w = lt_of_lt_of_le h (pow_mono wide) in
      rw (rw q at (high_ones (52 - w) w), and_split w t low l (2 ^ (52 - w) - 1), and_mask (t / 2 ^ w) (52 - w), ← and_below w t low l)

  low_and : (t : ℕ) (f : Bool) → bit_and t (one f * 128 + 1) ≡ one (f && is_on 7 t) * 128 + one (is_on 0 t)
  low_and t f = rw (and_flag 7 t 1 (omega arith) f, and_one t true, div-one t)

  pub bar_test : (f : Bool) → eqb (bit_and (turned e) (bad_of c + (one f * 128 + 1))) 0 ≡ (is_on 0 e && not (f && is_on 7 e) && not (is_common c e))
  bar_test f =
      let b : Bool = not (nxe c.flags) in
      let low : ℕ = one f * 128 + 1 in
      let s : bad_of c + low ≡ one b * 2 ^ 63 + (2 ^ 52 - 2 ^ w + low) = ap (λ (n : ℕ). n + low) (common_sum w (nxe c.flags)) ∙ add_assoc _ _ _ in
      rw (
        s,
        and_flag 63 (turned e) (2 ^ 52 - 2 ^ w + low) (omega (arith, one_le f)) b,
        high_and (turned e) low (omega (arith, one_le f)),
        low_and (turned e) f,
        turn_on 63 e (omega arith),
        turn_on 7 e (omega arith),
        turn_over 0 e refl,
        turn_part 52 w e (omega arith),
        zero_test (b && is_on 63 e) (f && is_on 7 e) (not (is_on 0 e)) (part 52 w e),
        not_not (is_on 0 e),
      )

-- a part that the code cuts out up to bit 51 ends at the width, where no bit beyond is set
low_part : (h l e : ℕ) → l ≤ h → part h l e ≡ e % 2 ^ h / 2 ^ l * 2 ^ l
low_part h l e g =
    let q : h - l + l ≡ h = omega arith in
    ap (λ (v : ℕ). v * 2 ^ l) (rw q at (sym (field e (h - l) l)))

pub cut : (m l e : ℕ) → m ≤ 52 → l ≤ m → part 52 m e ≡ 0 → part 52 l e ≡ part m l e
cut m l e h g z =
    let q : 52 - m + m ≡ 52 = omega arith in
    let d : e % 2 ^ 52 ≡ part 52 m e + e % 2 ^ m = rw q at (mod-pow-add e (52 - m) m) in
    rw (low_part 52 l e (omega arith), low_part m l e, d, z, zero-add)
