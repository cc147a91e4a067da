-- One step of the code is one step of the rules' walk, whatever control and address its numbers stand for: a law for each way out of it.
use Prim.Native.Nat.{ℕ, ◌+◌, ◌-◌, ◌*◌, ◌/◌, ◌%◌, ◌^◌, ◌≤◌, ◌<◌}
use mathlib.Core.Path.{◌≡◌, refl, ap, sym, ◌∙◌}
use mathlib.Core.Bool.{Bool, true, false, cond, ◌&&◌, ◌||◌, not, true≢false, and-false, or-true, and-true, and_assoc}
use native.Mathlib.Omega.{arith}
use native.Mathlib.Nat.{mul_assoc, add-zero}
use native.Mathlib.Decide.{ℕ_discrete}
use lib.Dec.{eqb, leb, ltb}
use lib.Pow.{field, shr-shr, shl-shr, pow-add}
use lib.Bits.{bit_and, bit_or}
use borrow.Author.Tests.{eq-eqb, ne_eqb, le-leb, lt-ltb, eqb-true, not-true, not-false}
use Rattle.rules.specs.Bits.{is_on, part, any_on, one}
use Rattle.rules.specs.Sizes.{shift, size_at}
use Rattle.rules.specs.Memory.{Memory, entry_at}
use Rattle.rules.specs.Entries.{bad, page, table, is_page, sorted, says, next}
use Rattle.rules.specs.Walk.{index, place, leaf_of, reached, stuck, Reach, step, reach}
use Rattle.rules.specs.declared.Control.{Control}
use Rattle.rules.specs.declared.Cause.TheVariants.{NotPresent, Reserved}
use Rattle.rules.proofs.BoolLaws.{or_left, and_left, and_right}
use Rattle.rules.proofs.FormatLaws.{is_common, is_own, widest, own_bits, says_by_size, reserved_high}
use Rattle.rules.proofs.WalkLaws.{reach_step}
use Rattle.walk.specs.Packed.{turned, rights_of, accessed_in, bad_of, Bars, slid, pack_page, pack_end, pack_reach, all_accessed, is_reserved_page, Stops, EndsAt, Ended, Down}
use Rattle.walk.proofs.Masks.{not_not, turn_over, turn_high, turn_on, turn_part, rights_or, accessed_or, bar_test, cut}

-- ---- the address slides by nine bits a level, so that the index of each is on top
pub slid_index : (level a : ℕ) → level ≤ 4 → slid level a / 2 ^ 55 ≡ index level a
slid_index level a h =
    let k : ℕ = 52 - 9 * level in
    let e : 52 - 9 * level + (3 + 9 * level) ≡ 55 = omega arith in
    let n : shift level + 9 - shift level ≡ 9 = omega arith in
    field (a * 2 ^ k) 9 55
    ∙ ap (λ (z : ℕ). z % 2 ^ 9) (ap (λ (z : ℕ). a * 2 ^ k / 2 ^ z) (sym e) ∙ sym (shr-shr (a * 2 ^ k) k (3 + 9 * level)) ∙ ap (λ (z : ℕ). z / 2 ^ (3 + 9 * level)) (shl-shr a k))
    ∙ ap (λ (z : ℕ). a / 2 ^ shift level % 2 ^ z) (sym n)

pub slid_next : (level a : ℕ) → 0 < level → level ≤ 4 → slid level a * 2 ^ 9 % 2 ^ 64 ≡ slid (level - 1) a
slid_next level a hp h =
    let k : ℕ = 52 - 9 * level in
    let e : 52 - 9 * (level - 1) ≡ 52 - 9 * level + 9 = omega arith in
    drop_mod (a * 2 ^ k) ∙ ap (λ (z : ℕ). z % 2 ^ 64) (mul_assoc a (2 ^ k) (2 ^ 9) ∙ ap (λ (z : ℕ). a * z) (sym (pow-add 2 k 9)) ∙ ap (λ (z : ℕ). a * 2 ^ z) (sym e))
  where
    drop_mod : (n : ℕ) → n % 2 ^ 64 * 2 ^ 9 % 2 ^ 64 ≡ n * 2 ^ 9 % 2 ^ 64
    drop_mod n = omega arith

-- ---- what an entry says, from the tests: one that is present and has no bit that every row has is a table, unless it ends the walk; then it is the
-- page, unless a bit is reserved in a page's entry
leaf_kind : (u : Bool) → sorted true u true ≡ cond u bad page
leaf_kind true = refl
leaf_kind false = refl

-- at level 4 the page bit is reserved
top_bit : (e : ℕ) → is_on 7 e ≡ true → is_reserved_page 4 e ≡ true
top_bit e b = own_bits 4 false e (omega arith, omega arith) ∙ rw b

below_top : (level e : ℕ) → level ≤ 4 → (eqb level 1 || is_on 7 e) ≡ true → is_reserved_page level e ≡ false → level ≤ 3
below_top level e high t f = go (ℕ_discrete level 4)
  where
    go : Dec (level ≡ 4) → level ≤ 3
    go (yes q) =
        let b : is_on 7 e ≡ true = rw q at t in
        absurd (true≢false (sym (top_bit e b) ∙ rw q at f))
    go (no n) = omega arith

module _ (c : Control) (level e : ℕ) (pos : 0 < level) (high : level ≤ 4) (present : is_on 0 e ≡ true) where
  says_common : is_common c e ≡ true → says c level e ≡ bad
  says_common w = says_by_size c level e pos high ∙ rw (present, w)

  says_end : is_common c e ≡ false → (eqb level 1 || is_on 7 e) ≡ true → says c level e ≡ cond (is_reserved_page level e) bad page
  says_end w t = says_by_size c level e pos high ∙ go (ℕ_discrete level 4)
    where
      go : Dec (level ≡ 4)
          → sorted (is_on 0 e) (is_common c e || is_own level (is_page level e) e) (is_page level e) ≡ cond (is_reserved_page level e) bad page
      go (yes q) =
          let b : is_on 7 e ≡ true = rw q at t in
          rw (q, present, w, top_bit e b, b)
      go (no n) =
          let l : level ≤ 3 = omega arith in
          rw (lt-ltb level 4 (omega arith), own_bits level true e (pos, l), present, w, ne_eqb level 4 n, le-leb level 3 l, t)
          (leaf_kind (any_on (size_at level).reserved 13 e))

  says_on : is_common c e ≡ false → (level ≡ 1 → ⊥) → is_on 7 e ≡ false → says c level e ≡ table
  says_on w n b = says_by_size c level e pos high ∙ rw (present, w, ne_eqb level 1 n, b, and-false (eqb level 4), and-false (leb level 3))

-- bit 0 of a turned entry
absent_by : (t e : ℕ) → t ≡ turned e → is_on 0 t ≡ true → is_on 0 e ≡ false
absent_by t e q h = not-true (is_on 0 e) (sym (ap (is_on 0) q ∙ turn_over 0 e refl) ∙ h)

present_by : (t e : ℕ) → t ≡ turned e → is_on 0 t ≡ false → is_on 0 e ≡ true
present_by t e q h = not-false (is_on 0 e) (sym (ap (is_on 0) q ∙ turn_over 0 e refl) ∙ h)

-- no address bit beyond the width
pub narrow : (c : Control) (e : ℕ) → is_common c e ≡ false → part 52 c.width e ≡ 0
narrow c e w = eqb-true (part 52 c.width e) 0 (not-false (eqb (part 52 c.width e) 0) (or_left (any_on 52 c.width e) _ w))

-- ---- the tests for a page, and for a table, which asks for bit 7 too
module _ (t bars : ℕ) (c : Control) (e : ℕ) (f : Bars c bars) (q : t ≡ turned e) where
  page_test : eqb (bit_and t (bars - 0x80)) 0 ≡ (is_on 0 e && true && not (is_common c e))
  page_test =
      let m : bars - 0x80 ≡ bad_of c + (one false * 128 + 1) = omega (arith, f.are) in
      rw (m, q) (bar_test c e f.wide f.narrow false)

  table_test : eqb (bit_and t bars) 0 ≡ (is_on 0 e && not (is_on 7 e) && not (is_common c e))
  table_test = rw (f.are, q) (bar_test c e f.wide f.narrow true)

-- ---- the ways out of `end`
module _ (t s level bars : ℕ) (pos : 0 < level) (high : level ≤ 4) (stops : Stops level t bars) where
  module _ (c : Control) (e : ℕ) (f : Bars c bars) (q : t ≡ turned e) where
    at_end : is_on 0 e ≡ true → is_common c e ≡ false → (eqb level 1 || is_on 7 e) ≡ true
    at_end p w = go (ℕ_discrete level 1) (is_on 7 e) refl
      where
        go : Dec (level ≡ 1) → (b : Bool) → is_on 7 e ≡ b → (eqb level 1 || b) ≡ true
        go (yes l) b h = rw l
        go (no n) true h = or-true (eqb level 1)
        go (no n) false h = absurd (stops n (eqb-true (bit_and t bars) 0 (rw (table_test t bars c e f q, p, h, w))))

    -- no row has a bit that is turned over
    same_bits : is_reserved_page level t ≡ is_reserved_page level e
    same_bits = reserved_high widest level (ltb level 4) t e (omega arith) (ap (λ (z : ℕ). z / 2 ^ 7) q ∙ turn_high e)

    module _ (clear : bit_and t (bars - 0x80) ≡ 0) where
      both : (is_on 0 e && true && not (is_common c e)) ≡ true
      both = sym (page_test t bars c e f q) ∙ eq-eqb _ 0 clear

      there : is_on 0 e ≡ true
      there = and_left (is_on 0 e) true (and_left (is_on 0 e && true) _ both)

      not_common : is_common c e ≡ false
      not_common = not-true (is_common c e) (and_right (is_on 0 e && true) _ both)

      ended : says c level e ≡ cond (is_reserved_page level t) bad page
      ended = says_end c level e pos high there not_common (at_end there not_common) ∙ ap (λ (u : Bool). cond u bad page) (sym same_bits)

  module _ (clear : bit_and t (bars - 0x80) ≡ 0) (b : Bool) (test : b ≡ is_reserved_page level t) where
    pub way_reserved : b ≡ true → Ended t s level bars (level * 32 + 1)
    way_reserved h =
        record {
          there = λ c e at f q.
              record { end = stuck Reserved level; ends = λ below. rw (ended c e f q clear, ← test, h); number = refl };
        }

    pub way_page : b ≡ false → (base n : ℕ) → base ≡ part 52 (3 + 9 * level) t
        → n ≡ pack_page base level (rights_of s) (is_on 8 t) (not (is_on 6 t)) (accessed_in s) → Ended t s level bars n
    way_page h base n hb hn =
        record {
          there = λ c e at f q.
              record {
                end = reached (leaf_of c level at e (rights_of s));
                ends = λ below. rw (ended c e f q clear, ← test, h);
                number =
                    hn
                    ∙ rw (
                      hb,
                      q,
                      turn_part 52 (3 + 9 * level) e (omega arith),
                      cut c.width (3 + 9 * level) e f.narrow (omega (arith, f.wide, less c e f q)) (narrow c e (not_common c e f q clear)),
                      turn_on 8 e (omega arith),
                      turn_over 6 e refl,
                      not_not (is_on 6 e),
                    );
              };
        }
      where
        -- at level 4 its page bit is set
        less : (c : Control) (e : ℕ) → Bars c bars → t ≡ turned e → level ≤ 3
        less c e f q = below_top level e high (at_end c e f q (there c e f q clear) (not_common c e f q clear)) (sym (same_bits c e f q) ∙ sym test ∙ h)

  module _ (barred : bit_and t (bars - 0x80) ≡ 0 → ⊥) where
    pub way_absent : t % 2 ≡ 1 → Ended t s level bars (level * 32)
    way_absent h =
        record {
          there = λ c e at f q.
              record {
                end = stuck NotPresent level;
                ends = λ below. rw (absent_by t e q (eq-eqb (t / 1 % 2) 1 (omega arith)));
                number = sym (add-zero (level * 32));
              };
        }

    pub way_bad : (t % 2 ≡ 1 → ⊥) → Ended t s level bars (level * 32 + 1)
    way_bad h =
        record {
          there = λ c e at f q.
              let p : is_on 0 e ≡ true = present_by t e q (ne_eqb (t / 1 % 2) 1 (λ z. h (omega arith))) in
              record {
                end = stuck Reserved level;
                ends = λ below. rw (says_common c level e pos high p (common_by c e f q p));
                number = refl;
              };
        }
      where
        common_by : (c : Control) (e : ℕ) → Bars c bars → t ≡ turned e → is_on 0 e ≡ true → is_common c e ≡ true
        common_by c e f q p =
            not-false (is_common c e) (sym (rw p at (page_test t bars c e f q)) ∙ ne_eqb (bit_and t (bars - 0x80)) 0 barred)

-- ---- the ways out of `down`
module _ (mem : Memory) (x level base seen bars at e : ℕ) (pos : 0 < level) (high : level ≤ 4)
    (stands : at ≡ base + 8 * (x / 2 ^ 55)) (reads : e ≡ entry_at mem at) where
  abbrev rd : ℕ → ℕ
  rd = entry_at mem

  abbrev t : ℕ
  t = turned e

  abbrev s : ℕ
  s = bit_or seen t

  abbrev below : Control → ℕ → Reach
  below c a = reach rd c a (level - 1) (next c e) (rights_of s)

  -- the rules' step, by the code's numbers
  stepped : (c : Control) (a : ℕ) → x ≡ slid level a
      → reach rd c a level base (rights_of seen) ≡ step c level at e (rights_of s) (below c a) (says c level e)
  stepped c a hx =
      let hat : at ≡ place level base a = stands ∙ ap (λ (z : ℕ). base + 8 * z) (ap (λ (z : ℕ). z / 2 ^ 55) hx ∙ slid_index level a high) in
      rw (rights_or seen e, reads, hat) (reach_step rd c a level base (rights_of seen) pos)

  -- the entry ends the walk
  pub way_end : (n : ℕ) → Ended t s level bars n → Down mem x level base seen bars n
  way_end n d =
      record {
        finds = λ c a f hx.
            let w : EndsAt c level at e s n = d.there c e at f refl in
            w.number
            ∙ ap (pack_end w.end) (accessed_or seen e ∙ ap (λ (b : Bool). accessed_in seen && b) (ap (is_on 5) reads ∙ sym (and-true (is_on 5 (rd at)))))
            ∙ ap (pack_reach (accessed_in seen) rd) (sym (stepped c a hx ∙ w.ends (below c a)));
      }

  -- it leads on
  module _ (not_last : level ≡ 1 → ⊥) (free : bit_and t bars ≡ 0) (next-base : ℕ) (leads : next-base ≡ part 52 12 t) where
    pub way_on : (n : ℕ) → Down mem (x * 2 ^ 9 % 2 ^ 64) (level - 1) next-base s bars n → Down mem x level base seen bars n
    way_on n d =
        record {
          finds = λ c a f hx.
              let all : (is_on 0 e && not (is_on 7 e) && not (is_common c e)) ≡ true = sym (table_test t bars c e f refl) ∙ eq-eqb (bit_and t bars) 0 free in
              let two : (is_on 0 e && not (is_on 7 e)) ≡ true = and_left _ (not (is_common c e)) all in
              let w : is_common c e ≡ false = not-true (is_common c e) (and_right (is_on 0 e && not (is_on 7 e)) _ all) in
              let says-table : says c level e ≡ table =
              says_on c level e pos high (and_left (is_on 0 e) _ two) w not_last (not-true (is_on 7 e) (and_right (is_on 0 e) _ two)) in
              let to : next-base ≡ next c e =
              leads ∙ turn_part 52 12 e (omega arith) ∙ cut c.width 12 e f.narrow (omega (arith, f.wide)) (narrow c e w) in
              d.finds c a f (ap (λ (z : ℕ). z * 2 ^ 9 % 2 ^ 64) hx ∙ slid_next level a pos high)
              ∙ ap (λ (z : ℕ). pack_reach (accessed_in s) rd (reach rd c a (level - 1) z (rights_of s))) to
              ∙ ap (pack_end (below c a).end) (rw (accessed_or seen e, and_assoc) (ap (λ (z : ℕ). accessed_in seen && (is_on 5 z && all_accessed rd (below c a).path)) reads))
              ∙ ap (pack_reach (accessed_in seen) rd) (sym (rw says-table at (stepped c a hx)));
        }
