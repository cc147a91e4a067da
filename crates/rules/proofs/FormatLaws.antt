-- Laws of the rows of reserved bits: what their answers are by level and page size, and that none has a bit below bit 7.
use Prim.Native.Nat.{ℕ, zero, suc, ◌-◌, ◌*◌, ◌/◌, ◌^◌, ◌≤◌, ◌<◌}
use mathlib.Core.Path.{◌≡◌, refl, ap, ap₂, sym}
use mathlib.Core.Bool.{Bool, true, false, cond, ◌&&◌, ◌||◌, not, true≢false}
use mathlib.Core.List.{List, [], ◌∷◌}
use native.Mathlib.Omega.{arith}
use native.Mathlib.Nat.{zero-mul}
use lib.Dec.{eqb, leb}
use lib.Pow.{pow_pos}
use borrow.Author.Tests.{ne_eqb, eqb-true, eqb-false, le-leb, leb-true}
use Rattle.rules.specs.Bits.{bit, is_on, any_on, one}
use Rattle.rules.specs.Sizes.{size_at}
use Rattle.rules.specs.Image.{nxe}
use Rattle.rules.specs.Formats.{Range, Row, xd, rows, ranges_of, any_in}
use Rattle.rules.specs.Entries.{is_page, is_reserved, sorted, says}
use Rattle.rules.specs.declared.Control.{Control}
use Rattle.rules.proofs.BoolLaws.{either, or_left, and_left, and_right, same}
use Rattle.rules.proofs.BitLaws.{on_one, part_high, part_none}

-- ---- a range of one bit, and one of none
one_bit : (k e : ℕ) → any_on (suc k) k e ≡ is_on k e
one_bit k e =
    let d : suc k - k ≡ 1 = omega arith in
    rw d (go (is_on k e) (on_one k e))
  where
    go : (b : Bool) → bit k e ≡ one b → not (eqb (bit k e * 2 ^ k) 0) ≡ eqb (bit k e) 1
    go true h = rw (h, ne_eqb (1 * 2 ^ k) 0 (λ (q : 1 * 2 ^ k ≡ 0). omega (arith, pow_pos k)))
    go false h = rw (h, zero-mul)

no_bit : (k e : ℕ) → any_on k k e ≡ false
no_bit k e = rw (part_none k k e (omega arith))

-- ---- the answers as document 01 words them: bits that every entry has, the page bit at level 4, and of a page those of its size
xd_on : (b : Bool) (e : ℕ) → any_in (xd b) e ≡ (not b && is_on 63 e)
xd_on true e = refl
xd_on false e = rw (one_bit 63 e) (same 1 (λ p. p || false) (λ p. p) refl (is_on 63 e))

abbrev pub is_common : Control → ℕ → Bool
is_common c e = any_on 52 c.width e || (not (nxe c.flags) && is_on 63 e)

abbrev pub is_own : ℕ → Bool → ℕ → Bool
is_own level page e = (eqb level 4 && is_on 7 e) || (page && any_on (size_at level).reserved 13 e)

-- a page stands at levels 1 to 3, a table at levels 2 to 4
abbrev pub Stands : ℕ → Bool → Type 0
Stands level true = (1 ≤ level) × (level ≤ 3)
Stands level false = (2 ≤ level) × (level ≤ 4)

pub by_size : (c : Control) (level : ℕ) (page : Bool) (e : ℕ) → Stands level page → is_reserved c level page e ≡ (is_common c e || is_own level page e)
by_size c zero true e h = absurd (omega arith)
by_size c zero false e h = absurd (omega arith)
by_size c (suc zero) true e h = rw (xd_on (nxe c.flags) e, no_bit 13 e) (same 1 (λ w. w) (λ w. w || (false || false)) refl (is_common c e))
by_size c (suc zero) false e h = absurd (omega arith)
by_size c (suc (suc zero)) true e h = rw (xd_on (nxe c.flags) e) (same 2 (λ w o. o || w) (λ w o. w || (false || o)) refl (is_common c e) (any_on 21 13 e))
by_size c (suc (suc zero)) false e h = rw (xd_on (nxe c.flags) e) (same 1 (λ w. w) (λ w. w || (false || false)) refl (is_common c e))
by_size c (suc (suc (suc zero))) true e h =
    rw (xd_on (nxe c.flags) e) (same 2 (λ w o. o || w) (λ w o. w || (false || o)) refl (is_common c e) (any_on 30 13 e))
by_size c (suc (suc (suc zero))) false e h = rw (xd_on (nxe c.flags) e) (same 1 (λ w. w) (λ w. w || (false || false)) refl (is_common c e))
by_size c (suc (suc (suc (suc zero)))) true e h = absurd (omega arith)
by_size c (suc (suc (suc (suc zero)))) false e h =
    rw (xd_on (nxe c.flags) e, one_bit 7 e) (same 2 (λ w s. s || w) (λ w s. w || (s || false)) refl (is_common c e) (is_on 7 e))
by_size c (suc (suc (suc (suc (suc level))))) true e h = absurd (omega arith)
by_size c (suc (suc (suc (suc (suc level))))) false e h = absurd (omega arith)

-- at width 52 and with NXE on there is nothing that every entry has
abbrev pub widest : Control
widest = record { width = 52; flags = 16; root = 0; pcid = 0 }

pub own_bits : (level : ℕ) (page : Bool) (e : ℕ) → Stands level page → any_in (ranges_of (rows 52 true) level page) e ≡ is_own level page e
own_bits level page e h = rw (no_bit 52 e) at (by_size widest level page e h)

-- ---- what an entry says
pub page_low : (level e : ℕ) → is_page level e ≡ true → level ≤ 3
page_low level e h = go (eqb level 1) (leb level 3) refl refl h
  where
    go : (x y : Bool) → eqb level 1 ≡ x → leb level 3 ≡ y → (x || (y && is_on 7 e)) ≡ true → level ≤ 3
    go true y ex ey q = omega (arith, eqb-true level 1 ex)
    go false true ex ey q = leb-true level 3 ey
    go false false ex ey q = absurd (true≢false (sym q))

stands : (level e : ℕ) → 0 < level → level ≤ 4 → (b : Bool) → is_page level e ≡ b → Stands level b
stands level e h g true q = (h, page_low level e q)
stands level e h g false q = (omega (arith, eqb-false level 1 (or_left (eqb level 1) _ q)), g)

pub says_by_size : (c : Control) (level e : ℕ) → 0 < level → level ≤ 4
    → says c level e ≡ sorted (is_on 0 e) (is_common c e || is_own level (is_page level e) e) (is_page level e)
says_by_size c level e h g =
    ap (λ (b : Bool). sorted (is_on 0 e) b (is_page level e)) (by_size c level (is_page level e) e (stands level e h g (is_page level e) refl))

-- ---- no row has a bit below bit 7, so an entry's reserved bits are the same whatever stands there
abbrev is_from : ℕ → List Range → Bool
is_from k [] = true
is_from k (r ∷ rs) = leb k r.low && is_from k rs

abbrev all_from : ℕ → List Row → Bool
all_from k [] = true
all_from k (r ∷ rs) = is_from k r.ranges && all_from k rs

rows_from : (M : ℕ) (nxe : Bool) → 7 ≤ M → all_from 7 (rows M nxe) ≡ true
rows_from M true h = rw (le-leb 7 M h)
rows_from M false h = rw (le-leb 7 M h)

ranges_from : (k : ℕ) (rs : List Row) (level : ℕ) (page : Bool) → all_from k rs ≡ true → is_from k (ranges_of rs level page) ≡ true
ranges_from k [] level page h = refl
ranges_from k (r ∷ rs) level page h =
    either (λ l. is_from k l ≡ true) (eqb level r.level && cond r.page page (not page)) r.ranges (ranges_of rs level page)
    (λ e. and_left (is_from k r.ranges) _ h) (λ e. ranges_from k rs level page (and_right (is_from k r.ranges) _ h))

module _ (k x y : ℕ) (above : x / 2 ^ k ≡ y / 2 ^ k) where
  any_from : (rs : List Range) → is_from k rs ≡ true → any_in rs x ≡ any_in rs y
  any_from [] h = refl
  any_from (r ∷ rs) h =
      ap₂ (λ (n : ℕ) (b : Bool). not (eqb n 0) || b)
      (part_high k (suc r.high) r.low x y (leb-true k r.low (and_left (leb k r.low) _ h)) above)
      (any_from rs (and_right (leb k r.low) _ h))

pub reserved_high : (c : Control) (level : ℕ) (page : Bool) (x y : ℕ) → 7 ≤ c.width → x / 2 ^ 7 ≡ y / 2 ^ 7
    → is_reserved c level page x ≡ is_reserved c level page y
reserved_high c level page x y h above =
    any_from 7 x y above (ranges_of (rows c.width (nxe c.flags)) level page)
    (ranges_from 7 (rows c.width (nxe c.flags)) level page (rows_from c.width (nxe c.flags) h))
