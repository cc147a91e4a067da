-- A page's number and a fault's, and what is read off them: below a page's base, a multiple of 4096, stand 2048, global, its level and what it lacks, each in
-- bits of its own; a fault's number stays below 2048.
use Prim.Native.Nat.{ℕ, ◌+◌, ◌-◌, ◌*◌, ◌/◌, ◌%◌, ◌^◌, ◌≤◌, ◌<◌}
use mathlib.Core.Path.{◌≡◌, refl}
use mathlib.Core.Bool.{Bool, true, false, cond, ◌&&◌, ◌||◌, not}
use native.Mathlib.Omega.{arith}
use lib.Dec.{eqb}
use lib.Bits.{bit_and, bit_or, bit_xor, and_zero_r, or_shifted_r}
use borrow.Author.Tests.{le-leb, lt-leb, not-false}
use Rattle.rules.specs.Bits.{bit, is_on, one}
use Rattle.rules.specs.Image.{wp}
use Rattle.rules.specs.Entries.{keeps_off, allows}
use Rattle.rules.specs.Walk.{Leaf, reached}
use Rattle.rules.specs.declared.Control.{Control}
use Rattle.rules.specs.declared.Access.{Access}
use Rattle.rules.specs.declared.Rights.{Rights}
use Rattle.rules.specs.declared.Cause.{Cause}
use Rattle.rules.specs.declared.Cause.TheVariants.{NotPresent, Reserved, Protection}
use Rattle.rules.specs.declared.Found.TheVariants.{Page, Fault}
use Rattle.rules.proofs.BoolLaws.{same}
use Rattle.rules.proofs.BitLaws.{one_le, flag_back}
use Rattle.words.proofs.Masks.{and_flag}
use Rattle.numbers.specs.Needs.{needed_of, clear_of}
use Rattle.numbers.proofs.Laws.{has_bits}
use Rattle.walk.specs.Packed.{pack_page, pack_end, cause_code, pack_fault, level_in, unpack_of}
use Rattle.walk.proofs.Masks.{not_not, xor_over}

zero_off : (b : Bool) → one b ≡ 0 → b ≡ false
zero_off true h = absurd (omega arith)
zero_off false h = refl

dirty_split : (w d : Bool) → one (not d) ≡ one (w && not d) + one (not (w || d))
dirty_split true true = refl
dirty_split true false = refl
dirty_split false true = refl
dirty_split false false = refl

-- a bit that must be clear is turned over before it is looked at
turned_test : (x : ℕ) (o : Bool) → eqb (bit_and (bit_xor x (2 * one o)) (2 * one o)) 0 ≡ not (o && not (is_on 1 x))
turned_test x false = rw (and_zero_r (bit_xor x 0))
turned_test x true =
    rw (and_flag 1 (bit_xor x 2) 0 (omega arith) true, and_zero_r (bit_xor x 2), xor_over 1 x 2 refl)
    (same 1 (λ t. eqb (one (not t) * 2 + 0) 0) (λ t. not (true && not t)) refl (is_on 1 x))

-- ---- a page, with whether each entry on the way was accessed
module _ (p : Leaf) (a : Bool) where
  abbrev r : Rights
  r = p.rights

  abbrev number : ℕ
  number = pack_end (reached p) a

  pub page_high : 2048 ≤ pack_end (reached p) a
  page_high = omega arith

  flags : (one p.global ≤ 1) × (one (not p.dirty) ≤ 1) × (one (not a) ≤ 1) × (one (not r.user) ≤ 1) × (one (not r.writable) ≤ 1) × (one (not r.executable) ≤ 1)
  flags = (one_le p.global, one_le (not p.dirty), one_le (not a), one_le (not r.user), one_le (not r.writable), one_le (not r.executable))

  module _ (h : p.level ≤ 7) (b : p.base % 4096 ≡ 0) where
    pub page_level : level_in (pack_end (reached p) a) ≡ p.level
    page_level = omega (arith, flags)

    page_base : number / 4096 * 4096 ≡ p.base
    page_base = omega (arith, flags)

    lacks_write : is_on 0 number ≡ not r.writable
    lacks_write = flag_back (not r.writable) (bit 0 number) (omega (arith, flags))

    lacks_user : is_on 1 number ≡ not r.user
    lacks_user = flag_back (not r.user) (bit 1 number) (omega (arith, flags))

    lacks_fetch : is_on 2 number ≡ not r.executable
    lacks_fetch = flag_back (not r.executable) (bit 2 number) (omega (arith, flags))

    lacks_dirty : is_on 3 number ≡ not p.dirty
    lacks_dirty = flag_back (not p.dirty) (bit 3 number) (omega (arith, flags))

    lacks_accessed : is_on 4 number ≡ not a
    lacks_accessed = flag_back (not a) (bit 4 number) (omega (arith, flags))

    is_global_lem : is_on 8 number ≡ p.global
    is_global_lem = flag_back p.global (bit 8 number) (omega (arith, flags))

    pub page_back : (n : ℕ) → n ≡ 5 - p.level → unpack_of (pack_end (reached p) a) ≡ Page p.base p.level p.rights p.global p.dirty n
    page_back n m =
        rw (le-leb 2048 number page_high, page_base, page_level, lacks_write, lacks_user, lacks_fetch, lacks_dirty, is_global_lem, m, not_not r.writable, not_not r.user, not_not r.executable, not_not p.dirty)

    -- what an access needs and the page lacks: rights, dirty, accessed
    module _ (c : Control) (k : Access) where
      abbrev no_fetch : Bool
      no_fetch = k.fetch && not r.executable

      abbrev no_user : Bool
      no_user = k.user && not r.user

      abbrev no_write : Bool
      no_write = k.write && (k.user || wp c.flags) && not r.writable

      abbrev barred : ℕ
      barred = one no_fetch * 4 + (one no_user * 2 + one no_write)

      abbrev pub lacks : ℕ
      lacks = bit_and (pack_end (reached p) a) (bit_or (needed_of c.flags k) 16)

      lacks_are : lacks ≡ one (not a) * 16 + (one (k.write && not p.dirty) * 8 + barred)
      lacks_are =
          let w : Bool = k.write && (k.user || wp c.flags) in
          let low : needed_of c.flags k < 2 ^ 4 = omega (arith, one_le w, one_le k.user, one_le k.fetch, one_le k.write) in
          rw (
            or_shifted_r 1 4 (needed_of c.flags k) low,
            and_flag 4 number (needed_of c.flags k) low true,
            has_bits number k.write k.fetch k.user w,
            lacks_accessed,
            lacks_dirty,
            lacks_fetch,
            lacks_user,
            lacks_write,
          )

      low_bits : lacks % 8 ≡ barred
      low_bits = rw lacks_are (omega (arith, one_le no_fetch, one_le no_user, one_le no_write))

      -- what must be clear, and the page has
      abbrev pub has : ℕ
      has = bit_and (bit_xor (pack_end (reached p) a) (clear_of c.flags k)) (clear_of c.flags k)

      clear_test : eqb has 0 ≡ not (keeps_off c.flags k && r.user)
      clear_test = rw (turned_test number (keeps_off c.flags k), lacks_user, not_not r.user)

      pub allow_test : (eqb (lacks % 8) 0 && eqb has 0) ≡ allows c k p.rights
      allow_test =
          rw (low_bits, clear_test)
          (same 8
          (λ f u w p x y z o. eqb (one (f && not x) * 4 + (one (u && not y) * 2 + one (w && (u || p) && not z))) 0 && not (o && y))
          (λ f u w p x y z o. (not u || y) && (not w || z || (not u && not p)) && (not f || x) && not (o && y))
          refl k.fetch k.user k.write (wp c.flags) r.executable r.user r.writable (keeps_off c.flags k))

      -- nothing is lacking
      pub has_marks : lacks ≡ 0 → (a ≡ true) × ((k.write && not p.dirty) ≡ false)
      has_marks h = (not-false a (zero_off (not a) (omega (arith, lacks_are))), zero_off (k.write && not p.dirty) (omega (arith, lacks_are)))

      -- marks alone are lacking, and are then there
      pub marks_made : lacks % 8 ≡ 0 → number - lacks ≡ pack_page p.base p.level p.rights p.global (k.write || p.dirty) true
      marks_made h = rw lacks_are (omega (arith, low_bits, dirty_split k.write p.dirty))

-- ---- a fault
code_low : (cause : Cause) → cause_code cause ≤ 2
code_low NotPresent = omega arith
code_low Reserved = omega arith
code_low Protection = omega arith

cause_back : (cause : Cause) → cond (eqb (cause_code cause) 0) NotPresent (cond (eqb (cause_code cause) 1) Reserved Protection) ≡ cause
cause_back NotPresent = refl
cause_back Reserved = refl
cause_back Protection = refl

module _ (cause : Cause) (level : ℕ) (h : level ≤ 7) where
  pub fault_low : pack_fault cause level < 2048
  fault_low = omega (arith, code_low cause)

  pub fault_level : level_in (pack_fault cause level) ≡ level
  fault_level = omega (arith, code_low cause)

  pub fault_back : (n : ℕ) → n ≡ 5 - level → unpack_of (pack_fault cause level) ≡ Fault cause level n
  fault_back n m =
      let e : pack_fault cause level % 32 ≡ cause_code cause = omega (arith, code_low cause) in
      rw (lt-leb 2048 (pack_fault cause level) fault_low, fault_level, e, cause_back cause, m)
