-- One part of memory: reading an entry after a bit was added to a byte, for every bit and every part.
-- Two laws carry it: a bit below 8 added to an entry's lowest byte is that bit set in the entry, since the other bytes make a multiple of
-- 256; and two entries at multiples of 8 are one or share no byte.
use Prim.Native.Nat.{ℕ, zero, suc, ◌+◌, ◌-◌, ◌*◌, ◌/◌, ◌%◌, ◌^◌, ◌≤◌, ◌<◌}
use mathlib.Core.Path.{◌≡◌, refl, ap, sym, ◌∙◌}
use mathlib.Core.Logic.{◌≢◌}
use mathlib.Core.Bool.{Bool, true, false, cond}
use mathlib.Core.List.{List, [], ◌∷◌}
use native.Mathlib.Omega.{arith}
use native.Mathlib.Nat.{le_of_suc-le-suc, not-suc-le-zero, add-mul-mod_self_left}
use native.Mathlib.Decide.{dec_lt}
use lib.ListN.{length, get_or, take, drop, set, length-set}
use lib.Seq.{drop-nil, set-get_or, set_out, take-set-le, drop-set-lt, drop-set-add}
use lib.Pow.{pow_pos, ones_split, ones_lt, high}
use lib.Dec.{leb, eqb}
use borrow.Author.Tests.{leb-true, le-leb, lt-leb, eq-eqb}
use Rattle.rules.specs.Bits.{bit, is_on, with_bit, word}
use Rattle.rules.specs.Memory.{all_ones, entry_in, added_in}
use Rattle.rules.proofs.BitLaws.{bit_low, on_stays, set_twice, set_order}

-- ---- a part after a bit was added
pub added_length : (k a : ℕ) (part : List ℕ) → length (added_in k a part) ≡ length part
added_length k a part = length-set part a _

pub added_outside : (k a : ℕ) (part : List ℕ) → length part ≤ a → added_in k a part ≡ part
added_outside k a part h = set_out part a _ h

pub added_twice : (k a : ℕ) (part : List ℕ) → added_in k a (added_in k a part) ≡ added_in k a part
added_twice k a [] = refl
added_twice k zero (x ∷ xs) = ap (λ (y : ℕ). y ∷ xs) (set_twice k x)
added_twice k (suc a) (x ∷ xs) = ap (λ (ys : List ℕ). x ∷ ys) (added_twice k a xs)

pub added_order : (j k a b : ℕ) (part : List ℕ) → added_in j a (added_in k b part) ≡ added_in k b (added_in j a part)
added_order j k a b [] = refl
added_order j k zero zero (x ∷ xs) = ap (λ (y : ℕ). y ∷ xs) (set_order j k x)
added_order j k zero (suc b) (x ∷ xs) = refl
added_order j k (suc a) zero (x ∷ xs) = refl
added_order j k (suc a) (suc b) (x ∷ xs) = ap (λ (ys : List ℕ). x ∷ ys) (added_order j k a b xs)

-- ---- an entry inside, and outside
pub entry_outside : (a : ℕ) (part : List ℕ) → length part < a + 8 → entry_in part a ≡ all_ones
entry_outside a part h = rw (lt-leb (a + 8) (length part) h)

pub entry_inside : (a : ℕ) (part : List ℕ) → a + 8 ≤ length part → entry_in part a ≡ word (take 8 (drop a part))
entry_inside a part h = rw (le-leb (a + 8) (length part) h)

pub ones_on : (k : ℕ) → k < 64 → is_on k all_ones ≡ true
ones_on k h =
    let q : suc (63 - k) + k ≡ 64 = omega arith in
    let e : all_ones / 2 ^ k ≡ 2 ^ suc (63 - k) - 1 = ap (λ (z : ℕ). z / 2 ^ k) (rw q at (ones_split (suc (63 - k)) k)) ∙ high _ k (ones_lt k) in
    eq-eqb (bit k all_ones) 1 (rw e (omega (arith, pow_pos (63 - k))))

-- ---- an entry after a bit was added to its lowest byte
low_byte : (k x r : ℕ) → k < 8 → with_bit k (x + 256 * r) ≡ with_bit k x + 256 * r
low_byte k x r h = rw (bit_low k 8 (x + 256 * r) x h (add-mul-mod_self_left x 256 r)) (omega arith)

here : (k a : ℕ) (part : List ℕ) → k < 8 → a < length part → word (take 8 (drop a (added_in k a part))) ≡ with_bit k (word (take 8 (drop a part)))
here k a [] h l = absurd (not-suc-le-zero l)
here k zero (x ∷ xs) h l = sym (low_byte k x (word (take 7 xs)) h)
here k (suc a) (x ∷ xs) h l = here k a xs h (le_of_suc-le-suc l)

pub same_entry : (k a : ℕ) (part : List ℕ) → k < 8 → entry_in (added_in k a part) a ≡ with_bit k (entry_in part a)
same_entry k a part h = rw (added_length k a part) (go (leb (a + 8) (length part)) refl)
  where
    go : (t : Bool) → leb (a + 8) (length part) ≡ t
        → cond t (word (take 8 (drop a (added_in k a part)))) all_ones ≡ with_bit k (cond t (word (take 8 (drop a part))) all_ones)
    go true e = here k a part h (omega (arith, leb-true (a + 8) (length part) e))
    go false e = sym (on_stays k all_ones (ones_on k (omega arith)))

-- a bit below 8 of an entry is one of its lowest byte
low_on : (k a : ℕ) (part : List ℕ) → k < 8 → is_on k (word (take 8 (drop a part))) ≡ is_on k (get_or part a 0)
low_on k a [] h = rw (drop-nil {A = ℕ} a)
low_on k zero (x ∷ xs) h = ap (λ (b : ℕ). eqb b 1) (bit_low k 8 (x + 256 * word (take 7 xs)) x h (add-mul-mod_self_left x 256 _))
low_on k (suc a) (x ∷ xs) h = low_on k a xs h

-- ---- an entry after a bit was added to another
apart : (i j v : ℕ) (part : List ℕ) → i ≢ j → take 8 (drop (8 * j) (set part (8 * i) v)) ≡ take 8 (drop (8 * j) part)
apart i j v part h = go (dec_lt i j)
  where
    go : Dec (i < j) → take 8 (drop (8 * j) (set part (8 * i) v)) ≡ take 8 (drop (8 * j) part)
    go (yes l) = ap (take 8) (drop-set-lt (8 * j) part (8 * i) v (omega arith))
    go (no g) =
        let e : 8 * i ≡ 8 * j + 8 * (i - j) = omega arith in
        rw (e, drop-set-add) (take-set-le 8 (drop (8 * j) part) (8 * (i - j)) v (omega arith))

eight_is : (x : ℕ) → x % 8 ≡ 0 → 8 * (x / 8) ≡ x
eight_is x h = omega arith

pub other_entry : (k a b : ℕ) (part : List ℕ) → a % 8 ≡ 0 → b % 8 ≡ 0 → a ≢ b → entry_in (added_in k a part) b ≡ entry_in part b
other_entry k a b part ea eb n =
    let e : take 8 (drop b (added_in k a part)) ≡ take 8 (drop b part) =
    rw (eight_is a ea, eight_is b eb) at (apart (a / 8) (b / 8) (with_bit k (get_or part a 0)) part (λ q. n (omega arith))) in
    rw (added_length k a part, e)

-- ---- a bit that an entry has need not be added
module _ (k a : ℕ) (part : List ℕ) (eight : a % 8 ≡ 0) (whole : length part % 8 ≡ 0) where
  pub added_already : k < 8 → is_on k (entry_in part a) ≡ true → part ≡ added_in k a part
  added_already h on = go (dec_lt a (length part))
    where
      go : Dec (a < length part) → part ≡ added_in k a part
      go (no g) = sym (added_outside k a part (omega arith))
      go (yes l) =
          let e : is_on k (get_or part a 0) ≡ true = sym (low_on k a part h) ∙ ap (is_on k) (sym (entry_inside a part (omega arith))) ∙ on in
          sym (ap (set part a) (on_stays k (get_or part a 0) e) ∙ set-get_or part a 0)
