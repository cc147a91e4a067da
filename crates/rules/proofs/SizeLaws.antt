-- What holds of the three page sizes, which slots are an address's own, and a slot's two words read back.
-- A size is one of three, so a law of sizes is three sums; a word is a sum of parts that do not overlap, so each part is read back by dividing.
use Prim.Native.Nat.{ℕ, zero, suc, ◌+◌, ◌-◌, ◌*◌, ◌/◌, ◌%◌, ◌^◌, ◌≤◌, ◌<◌}
use mathlib.Core.Path.{◌≡◌, refl}
use mathlib.Core.Bool.{Bool, true}
use mathlib.Core.List.Memᴰ
use mathlib.Core.List.{Memᴰ}
use native.Mathlib.Omega.{arith}
use native.Mathlib.Nat.{add_comm, mod-lt, mod-eq_of_lt, mul_assoc, mul-mod_left, lt_of_lt_of_le}
use lib.Dec.{ltb}
use lib.Pow.{pow_pos, pow_mono, pow-add, high, shl_lt}
use borrow.Author.Tests.{lt-ltb, le-ltb}
use Rattle.rules.specs.Bits.{bit, field, part, one}
use Rattle.rules.specs.Sizes.{shift, small, middle, large, Is, is_small, is_middle, is_large, size_at, page_number, set_of, ways, size_of, slots_of}
use Rattle.rules.specs.Image.{is_held, is_global, pcid_in, page_in, tag_of, rights_in, is_dirty, datum_of}
use Rattle.rules.specs.Buffer.{all_ways}
use Rattle.rules.specs.declared.Size.{Size}
use Rattle.rules.specs.declared.Rights.{Rights}
use Rattle.rules.proofs.BoolLaws.{either}
use Rattle.rules.proofs.BitLaws.{one_le, flag_back}

-- ---- sizes
pub size_at_lem : (l : ℕ) → 1 ≤ l → l ≤ 3 → Is (size_at l)
size_at_lem zero h g = absurd (omega arith)
size_at_lem (suc zero) h g = is_small
size_at_lem (suc (suc zero)) h g = is_middle
size_at_lem (suc (suc (suc zero))) h g = is_large
size_at_lem (suc (suc (suc (suc l)))) h g = absurd (omega arith)

pub level_at : (l : ℕ) → 1 ≤ l → l ≤ 3 → (size_at l).level ≡ l
level_at zero h g = absurd (omega arith)
level_at (suc zero) h g = refl
level_at (suc (suc zero)) h g = refl
level_at (suc (suc (suc zero))) h g = refl
level_at (suc (suc (suc (suc l)))) h g = absurd (omega arith)

pub size_of_lem : (i : ℕ) → Is (size_of i)
size_of_lem i = either Is (ltb (i / 4) 16) small _ (λ e. is_small) (λ e. either Is (ltb (i / 4) 24) middle large (λ f. is_middle) (λ f. is_large))

pub length_in : (z : Size) → Is z → (1 ≤ z.length) × (z.length ≤ 2 ^ 30)
length_in z is_small = (omega arith, omega arith)
length_in z is_middle = (omega arith, omega arith)
length_in z is_large = (omega arith, omega arith)

pub length_is : (z : Size) → Is z → z.length ≡ 2 ^ shift z.level
length_is z is_small = refl
length_is z is_middle = refl
length_is z is_large = refl

pub set_small : (z : Size) (n : ℕ) → Is z → z.first + n % z.sets < 25
set_small z n is_small = omega arith
set_small z n is_middle = omega arith
set_small z n is_large = omega arith

pub set_lt : (z : Size) (a : ℕ) → Is z → set_of z a < 25
set_lt z a q = set_small z (page_number z a) q

pub page_lt : (z : Size) (a : ℕ) → Is z → page_number z a < 2 ^ 36
page_lt z a is_small = omega arith
page_lt z a is_middle = omega arith
page_lt z a is_large = omega arith

-- ---- an address's own slots
pub slot_size : (z : Size) (a i : ℕ) → Is z → i / 4 ≡ set_of z a → size_of i ≡ z
slot_size z a i is_small h = rw (lt-ltb (i / 4) 16 (omega arith))
slot_size z a i is_middle h = rw (le-ltb (i / 4) 16 (omega arith), lt-ltb (i / 4) 24 (omega arith))
slot_size z a i is_large h = rw (le-ltb (i / 4) 16 (omega arith), le-ltb (i / 4) 24 (omega arith))

pub in_ways : (z : Size) (a i : ℕ) → i / 4 ≡ set_of z a → Memᴰ i (ways z a)
in_ways z a i h = go (set_of z a) (i % 4) h refl
  where
    go : (n r : ℕ) → i / 4 ≡ n → i % 4 ≡ r → Memᴰ i (slots_of n)
    go n zero g e = Memᴰ.head {x = 4 * n} (omega arith)
    go n (suc zero) g e = Memᴰ.tail (Memᴰ.head {x = 4 * n + 1} (omega arith))
    go n (suc (suc zero)) g e = Memᴰ.tail (Memᴰ.tail (Memᴰ.head {x = 4 * n + 2} (omega arith)))
    go n (suc (suc (suc zero))) g e = Memᴰ.tail (Memᴰ.tail (Memᴰ.tail (Memᴰ.head {x = 4 * n + 3} (omega arith))))
    go n (suc (suc (suc (suc r)))) g e = absurd (omega arith)

pub in_all : (z : Size) (a i : ℕ) → Is z → i / 4 ≡ set_of z a → Memᴰ i (all_ways a)
in_all z a i is_small h = Memᴰ.append_left _ (in_ways small a i h)
in_all z a i is_middle h = Memᴰ.append_right (ways small a) (Memᴰ.append_left _ (in_ways middle a i h))
in_all z a i is_large h = Memᴰ.append_right (ways small a) (Memᴰ.append_right (ways middle a) (in_ways large a i h))

-- ---- the tag read back
module _ (g : Bool) (p n : ℕ) where
  pub tag_held : is_held (tag_of g p n) ≡ true
  tag_held = flag_back true (bit 0 (tag_of g p n)) (omega arith)

  pub tag_global : is_global (tag_of g p n) ≡ g
  tag_global = flag_back g (bit 1 (tag_of g p n)) (omega (arith, one_le g))

  pub tag_pcid : p < 4096 → pcid_in (tag_of g p n) ≡ p
  tag_pcid h = omega (arith, one_le g)

  pub tag_page : p < 4096 → n < 2 ^ 36 → page_in (tag_of g p n) ≡ n
  tag_page h k = omega (arith, one_le g)

  pub tag_lt : p < 4096 → n < 2 ^ 36 → tag_of g p n < 2 ^ 64
  tag_lt h k = omega (arith, one_le g)

-- ---- the data read back: below the base stand four flags
abbrev flags_of : Rights → Bool → ℕ
flags_of r d = one r.writable + 2 * one r.user + 4 * one r.executable + 8 * one d

module _ (r : Rights) (d : Bool) where
  flags_lt : flags_of r d < 16
  flags_lt = omega (arith, one_le r.writable, one_le r.user, one_le r.executable, one_le d)

  module _ (base : ℕ) (h : base % 4096 ≡ 0) where
    pub rights_back : rights_in (datum_of r d base) ≡ r
    rights_back =
        rw (
          flag_back r.writable (bit 0 (datum_of r d base)) (omega (arith, one_le r.writable)),
          flag_back r.user (bit 1 (datum_of r d base)) (omega (arith, one_le r.writable, one_le r.user)),
          flag_back r.executable (bit 2 (datum_of r d base)) (omega (arith, one_le r.writable, one_le r.user, one_le r.executable)),
        )

    pub dirty_back : is_dirty (datum_of r d base) ≡ d
    dirty_back = flag_back d (bit 3 (datum_of r d base)) (omega (arith, one_le r.writable, one_le r.user, one_le r.executable, one_le d))

  pub datum_lt : (base : ℕ) → base < 2 ^ 52 → datum_of r d base < 2 ^ 64
  datum_lt base h = omega (arith, flags_lt)

-- ---- a page's base: bits of its entry from the page's length on
module _ (l w e : ℕ) (wide : w ≤ 52) where
  field_lt : field w (shift l) e < 2 ^ (52 - shift l)
  field_lt = lt_of_lt_of_le (mod-lt (e / 2 ^ shift l) (pow_pos (w - shift l))) (pow_mono (omega arith))

  pub base_lt : l ≤ 3 → part w (shift l) e < 2 ^ 52
  base_lt h =
      let k : 52 - shift l + shift l ≡ 52 = omega arith in
      rw k at (shl_lt (52 - shift l) (shift l) field_lt)

  pub base_back : (r : Rights) (d : Bool) → 1 ≤ l → part 52 (shift l) (datum_of r d (part w (shift l) e)) ≡ part w (shift l) e
  base_back r d h =
      let k : 4 ≤ shift l = omega arith in
      let f : flags_of r d < 2 ^ shift l = lt_of_lt_of_le (flags_lt r d) (pow_mono k) in
      rw (add_comm (flags_of r d), high (field w (shift l) e) (shift l) f, mod-eq_of_lt field_lt)

pub base_low : (l w e : ℕ) → 1 ≤ l → part w (shift l) e % 4096 ≡ 0
base_low zero w e h = absurd (omega arith)
base_low (suc l) w e h =
    let k : shift (suc l) ≡ 9 * l + 12 = omega arith in
    rw (k, pow-add 2 (9 * l) 12, ← mul_assoc) (mul-mod_left _ 4096)
