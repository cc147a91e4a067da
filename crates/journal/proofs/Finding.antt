-- Looking for a fault, record by record: the first held one of it is found, or all those held are passed.
use Prim.Native.Nat.{ℕ, zero, suc, ◌+◌, ◌*◌, ◌≤◌, ◌<◌}
use mathlib.Core.Path.{◌≡◌, refl, ap, sym, ◌∙◌}
use mathlib.Core.Bool.{Bool, true, false, cond}
use mathlib.Core.List.{List}
use native.Mathlib.Omega.{arith}
use native.Mathlib.Decide.{dec_lt}
use lib.Dec.{ltb}
use borrow.Author.Tests.{lt-ltb, le-ltb}
use Rattle.std.specs.Prelude.{Option, Some, None}
use Rattle.rules.specs.Bits.{word_at}
use Rattle.rules.specs.Buffer.{hit, miss, first}
use Rattle.journal.specs.Journal.{Fault, is_same, Journal, decode}
use Rattle.journal.specs.Step.{from, find}
use Rattle.journal.specs.Parts.{IsFirst, IsNew, Finds}
use Rattle.journal.proofs.JournalLaws.{page_at_lem, code_at, root_at}

-- ---- the words of a record are the fault's
pub fault_read : (b : List ℕ) (i x y z : ℕ) → i < 64 → x ≡ word_at b (64 + i * 40) → y ≡ word_at b (64 + i * 40 + 8) → z ≡ word_at b (64 + i * 40 + 16)
    → ◌≡◌ {A = Fault} (record { page = x; code = y; root = z }) ((decode b).records i).fault
fault_read b i x y z h ex ey ez =
    let p = ex ∙ sym (page_at_lem b i h) in
    let c = ey ∙ sym (code_at b i h) in
    let r = ez ∙ sym (root_at b i h) in
    λ k. record { page = p k; code = c k; root = r k }

module _ (f : Fault) (j : Journal) where
  abbrev is_of : ℕ → Bool
  is_of k = is_same (j.records k).fault f

  -- the first n records are not of this fault
  pub record Passed (n : ℕ) : Type 0 where
    pub none : (k : ℕ) → k < n → is_of k ≡ false

  next : (n m : ℕ) → Passed n → (t : Bool) → t ≡ is_of n → t ≡ false → n + 1 ≡ m → Passed m
  next n m p t e g q = record { none = λ k h. go k h (dec_lt k n) }
    where
      go : (k : ℕ) → k < m → Dec (k < n) → is_of k ≡ false
      go k h (yes l) = p.none k l
      go k h (no l) = let s : k ≡ n = omega arith in ap is_of s ∙ sym e ∙ g

  here : (n held : ℕ) → Passed n → (t : Bool) → t ≡ is_of n → t ≡ true → held ≡ j.held → n < held → IsFirst f j n
  here n held p t e g q h = record { held = omega arith; passed = p.none; there = sym e ∙ g }

  all_passed : (n held : ℕ) → Passed n → held ≡ j.held → held ≤ n → IsNew f j
  all_passed n held p e h = record { passed = λ k g. p.none k (omega arith) }

  -- one that may stand behind those held
  if_held : (n held : ℕ) (o : Option ℕ) → Passed n → (t : Bool) → t ≡ is_of n → t ≡ true → held ≡ j.held → o ≡ cond (ltb n held) (Some n) None → Finds f j o
  if_held n held o p t e g q s = go (dec_lt n held)
    where
      go : Dec (n < held) → Finds f j o
      go (yes h) = rw (s, lt-ltb n held h) (here n held p t e g q h)
      go (no h) = rw (s, le-ltb n held (omega arith)) (all_passed n held p q (omega arith))

  -- ---- four at a time
  module _ (i : ℕ) (p : Passed i) (a : Bool) (ea : a ≡ is_of i) (na : a ≡ false) (b : Bool) (eb : b ≡ is_of (i + 1)) (nb : b ≡ false) where
    two : Passed (i + 2)
    two = next (i + 1) (i + 2) (next i (i + 1) p a ea na refl) b eb nb (omega arith)

    module _ (c : Bool) (ec : c ≡ is_of (i + 2)) (nc : c ≡ false) (d : Bool) (ed : d ≡ is_of (i + 3)) where
      three : Passed (i + 3)
      three = next (i + 2) (i + 3) two c ec nc (omega arith)

      pub at_fourth : (held : ℕ) (o : Option ℕ) → d ≡ true → held ≡ j.held → o ≡ cond (ltb (i + 3) held) (Some (i + 3)) None → Finds f j o
      at_fourth held o = if_held (i + 3) held o three d ed

      pub four_passed : (n : ℕ) → d ≡ false → i + 4 ≡ n → Passed n
      four_passed n nd e = next (i + 3) n three d ed nd (omega arith)

-- ---- what was found is what the step goes by
first_from : (p : ℕ → Bool) (i n r : ℕ) → ((k : ℕ) → k < r → p k ≡ false) → i ≤ r → r < i + n → p r ≡ true → first p (from i n) ≡ hit r
first_from p i zero r none l h t = absurd (omega arith)
first_from p i (suc n) r none l h t = go (dec_lt i r) (λ g. first_from p (suc i) n r none g (omega arith) t)
  where
    go : Dec (i < r) → (i < r → first p (from (suc i) n) ≡ hit r) → first p (from i (suc n)) ≡ hit r
    go (yes g) ih = rw (none i g) (ih g)
    go (no g) ih = let e : i ≡ r = omega arith in rw (e, t)

none_from : (p : ℕ → Bool) (i n r : ℕ) → ((k : ℕ) → k < r → p k ≡ false) → i + n ≤ r → first p (from i n) ≡ miss
none_from p i zero r none h = refl
none_from p i (suc n) r none h = rw (none i (omega arith)) (none_from p (suc i) n r none (omega arith))

module _ (f : Fault) (j : Journal) where
  pub finds_hit : (n : ℕ) → IsFirst f j n → find f j ≡ hit n
  finds_hit n h = first_from (λ k. is_same (j.records k).fault f) 0 j.held n h.passed (omega arith) (omega arith) h.there

  pub finds_none : IsNew f j → find f j ≡ miss
  finds_none h = none_from (λ k. is_same (j.records k).fault f) 0 j.held j.held h.passed (omega arith)
