-- Memory of two parts: what holds of each part by itself (`PartLaws`) holds of memory, since an address is one of low or of high. An address in the hole, or past
-- high's end, reads as all ones and is not written.
use Prim.Native.Nat.{ℕ, ◌+◌, ◌-◌, ◌%◌, ◌≤◌, ◌<◌}
use mathlib.Core.Path.{◌≡◌, refl, ap, sym}
use mathlib.Core.Logic.{◌≢◌}
use mathlib.Core.Bool.{Bool, true, false, cond, ◌||◌, not, or-true}
use mathlib.Core.List.{List}
use native.Mathlib.Omega.{arith}
use lib.ListN.{length}
use lib.Dec.{ltb, eqb}
use borrow.Author.Tests.{ltb-false, lt-ltb, le-ltb, eqb-true, not-false}
use Rattle.rules.specs.Bits.{is_on, with_bit}
use Rattle.rules.specs.Memory.{Memory, both, high_base, low_most, all_ones, entry_in, added_in, entry_at, added, no_lengths, Whole}
use Rattle.rules.proofs.BoolLaws.{or_left, or_right}
use Rattle.rules.proofs.PartLaws as part

-- ---- by which part an address is one of
abbrev entry_by : Bool → Memory → ℕ → ℕ
entry_by x mem a = cond x (entry_in mem.low a) (entry_in mem.high (a - high_base))

abbrev added_by : Bool → ℕ → ℕ → Memory → Memory
added_by x k a mem = cond x (both (added_in k a mem.low) mem.high) (both mem.low (added_in k (a - high_base) mem.high))

-- ---- an entry in the hole, and past high's end
pub entry_hole : (a : ℕ) (mem : Memory) → a < high_base → length mem.low < a + 8 → entry_at mem a ≡ all_ones
entry_hole a mem h l = rw (lt-ltb a high_base h) (part.entry_outside a mem.low l)

pub entry_past : (a : ℕ) (mem : Memory) → high_base ≤ a → high_base + length mem.high < a + 8 → entry_at mem a ≡ all_ones
entry_past a mem h l = rw (le-ltb a high_base h) (part.entry_outside (a - high_base) mem.high (omega arith))

pub added_hole : (k a : ℕ) (mem : Memory) → a < high_base → length mem.low ≤ a → added k a mem ≡ mem
added_hole k a mem h l = rw (lt-ltb a high_base h) (ap (λ (x : List ℕ). both x mem.high) (part.added_outside k a mem.low l))

pub added_past : (k a : ℕ) (mem : Memory) → high_base + length mem.high ≤ a → added k a mem ≡ mem
added_past k a mem l =
    rw (le-ltb a high_base (omega arith)) (ap (both mem.low) (part.added_outside k (a - high_base) mem.high (omega arith)))

-- ---- memory after a bit was added
pub record SameLengths (mem mem' : Memory) : Type 0 where
  pub low : length mem.low ≡ length mem'.low
  pub high : length mem.high ≡ length mem'.high

pub added_lengths : (k a : ℕ) (mem : Memory) → SameLengths mem (added k a mem)
added_lengths k a mem = go (ltb a high_base)
  where
    go : (x : Bool) → SameLengths mem (added_by x k a mem)
    go true = record { low = sym (part.added_length k a mem.low); high = refl }
    go false = record { low = refl; high = sym (part.added_length k (a - high_base) mem.high) }

pub added_twice : (k a : ℕ) (mem : Memory) → added k a (added k a mem) ≡ added k a mem
added_twice k a mem = go (ltb a high_base)
  where
    go : (x : Bool) → added_by x k a (added_by x k a mem) ≡ added_by x k a mem
    go true = ap (λ (l : List ℕ). both l mem.high) (part.added_twice k a mem.low)
    go false = ap (both mem.low) (part.added_twice k (a - high_base) mem.high)

pub added_order : (j k a b : ℕ) (mem : Memory) → added j a (added k b mem) ≡ added k b (added j a mem)
added_order j k a b mem = go (ltb a high_base) (ltb b high_base)
  where
    go : (x y : Bool) → added_by x j a (added_by y k b mem) ≡ added_by y k b (added_by x j a mem)
    go true true = ap (λ (l : List ℕ). both l mem.high) (part.added_order j k a b mem.low)
    go true false = refl
    go false true = refl
    go false false = ap (both mem.low) (part.added_order j k (a - high_base) (b - high_base) mem.high)

-- ---- an entry after a bit was added to it, and to another
pub same_entry : (k a : ℕ) (mem : Memory) → k < 8 → entry_at (added k a mem) a ≡ with_bit k (entry_at mem a)
same_entry k a mem h = go (ltb a high_base)
  where
    go : (x : Bool) → entry_by x (added_by x k a mem) a ≡ with_bit k (entry_by x mem a)
    go true = part.same_entry k a mem.low h
    go false = part.same_entry k (a - high_base) mem.high h

pub other_entry : (k a b : ℕ) (mem : Memory) → a % 8 ≡ 0 → b % 8 ≡ 0 → a ≢ b → entry_at (added k a mem) b ≡ entry_at mem b
other_entry k a b mem ea eb n = go (ltb a high_base) (ltb b high_base) refl refl
  where
    go : (x y : Bool) → ltb a high_base ≡ x → ltb b high_base ≡ y → entry_by y (added_by x k a mem) b ≡ entry_by y mem b
    go true true p q = part.other_entry k a b mem.low ea eb n
    go true false p q = refl
    go false true p q = refl
    go false false p q =
        part.other_entry k (a - high_base) (b - high_base) mem.high (omega (arith, ltb-false a high_base p)) (omega (arith, ltb-false b high_base q))
        (λ e. n (omega (arith, ltb-false a high_base p, ltb-false b high_base q)))

-- ---- a bit that an entry has need not be added
pub added_already : (k a : ℕ) (mem : Memory) → a % 8 ≡ 0 → Whole mem → k < 8 → is_on k (entry_at mem a) ≡ true → mem ≡ added k a mem
added_already k a mem eight w h = go (ltb a high_base) refl
  where
    go : (x : Bool) → ltb a high_base ≡ x → is_on k (entry_by x mem a) ≡ true → mem ≡ added_by x k a mem
    go true p on = ap (λ (l : List ℕ). both l mem.high) (part.added_already k a mem.low eight w.low h on)
    go false p on =
        ap (both mem.low) (part.added_already k (a - high_base) mem.high (omega (arith, ltb-false a high_base p)) w.high h on)

-- ---- lengths that are not refused
pub record Lengths (mem : Memory) : Type 0 where
  pub low : length mem.low % 4096 ≡ 0
  pub high : length mem.high % 4096 ≡ 0
  pub most : length mem.low ≤ low_most

pub lengths : (mem : Memory) → no_lengths mem ≡ false → Lengths mem
lengths mem h =
    let e : (not (eqb (length mem.low % 4096) 0) || not (eqb (length mem.high % 4096) 0)) ≡ false = or_left _ (ltb low_most (length mem.low)) h in
    record {
      low = eqb-true (length mem.low % 4096) 0 (not-false (eqb (length mem.low % 4096) 0) (or_left _ (not (eqb (length mem.high % 4096) 0)) e));
      high = eqb-true (length mem.high % 4096) 0 (not-false (eqb (length mem.high % 4096) 0) (or_right (not (eqb (length mem.low % 4096) 0)) _ e));
      most = ltb-false low_most (length mem.low) (or_right (not (eqb (length mem.low % 4096) 0) || not (eqb (length mem.high % 4096) 0)) _ h);
    }

pub whole : (mem : Memory) → Lengths mem → Whole mem
whole mem l = record { low = omega (arith, l.low); high = omega (arith, l.high); below = omega (arith, l.most) }

-- the limit itself is allowed, and a page more is not, whatever the bytes are
pub limit_allowed : (mem : Memory) → length mem.low ≡ 0xB0000000 → length mem.high % 4096 ≡ 0 → no_lengths mem ≡ false
limit_allowed mem h e = rw (h, e)

pub limit_passed : (mem : Memory) → length mem.low ≡ 0xB0001000 → no_lengths mem ≡ true
limit_passed mem h = rw h (or-true (not (eqb (length mem.high % 4096) 0)))

-- lengths alone decide
pub lengths_stay : (mem mem' : Memory) → SameLengths mem mem' → no_lengths mem' ≡ no_lengths mem
lengths_stay mem mem' s = rw (s.low, s.high)
