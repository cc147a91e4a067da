-- A page that is reached, judged and marked by its number: what is left is what the rules judge and mark. A number from 2048 on is a page's.
use Prim.Native.Nat.{ℕ, ◌+◌, ◌-◌, ◌*◌, ◌/◌, ◌%◌, ◌^◌, ◌≤◌}
use mathlib.Core.Path.{◌≡◌, refl, ap, ap₂, sym, ◌∙◌, subst}
use mathlib.Core.Bool.{Bool, true, false, ◌&&◌, ◌||◌}
use mathlib.Core.List.{List, [], ◌∷◌}
use native.Mathlib.Omega.{arith}
use lib.Dec.{eqb}
use lib.Bits.{bit_and, bit_or, bit_xor}
use borrow.Author.Tests.{eq-eqb, ne_eqb, not-false}
use Rattle.rules.specs.Bits.{is_on, one}
use Rattle.rules.specs.Image.{wp}
use Rattle.rules.specs.Memory.{Memory, entry_at}
use Rattle.rules.specs.Entries.{everything, allows}
use Rattle.rules.specs.Walk.{Leaf, End, reached, stuck, accessed, dirtied, marked, reach_in}
use Rattle.rules.specs.declared.Control.{Control}
use Rattle.rules.specs.declared.Access.{Access}
use Rattle.rules.specs.declared.Cause.TheVariants.{Protection}
use Rattle.rules.proofs.BoolLaws.{and_left, and_right, same}
use Rattle.rules.proofs.BitLaws.{one_le}
use Rattle.rules.proofs.WalkLaws.{end_level, end_low, IsLeaf, is_leaf, leaf_base}
use Rattle.rules.proofs.Alike.{AllOf}
use Rattle.rules.proofs.Grown.{eights}
use Rattle.rules.proofs.Marks.{Marked, LeafOn, marked_same}
use Rattle.numbers.specs.Needs.{needed_of, clear_of}
use Rattle.walk.specs.Packed.{Ready, pack_page, pack_fault, pack_end, pack_reach, all_accessed, level_in, bits_of, MarkedDown, Did, Settled}
use Rattle.walk.proofs.Packing.{page_level, allow_test, has_marks, marks_made, fault_low}

module _ (mem : Memory) (c : Control) (a n : ℕ) where
  abbrev all : Bool
  all = all_accessed (entry_at mem) (reach_in mem c a).path

  record Paged : Type 0 where
    leaf : Leaf
    ends : (reach_in mem c a).end ≡ reached leaf
    number : n ≡ pack_end (reached leaf) all

  paged : 2048 ≤ n → n ≡ pack_reach true (entry_at mem) (reach_in mem c a) → Paged
  paged h q = go (reach_in mem c a).end refl
    where
      go : (w : End) → (reach_in mem c a).end ≡ w → Paged
      go (reached p) e = record { leaf = p; ends = e; number = rw e at q }
      go (stuck cause level) e =
          let f : n ≡ pack_fault cause level = rw e at q in
          absurd (omega (arith, fault_low cause level (omega (arith, ap end_level e, end_low (entry_at mem) c a 4 c.root everything (omega arith)))))

-- ---- the ways out of `settle`
all_of : (rd : ℕ → ℕ) (path : List ℕ) → all_accessed rd path ≡ true → AllOf (λ at. is_on 5 (rd at) ≡ true) path
all_of rd [] h = tt
all_of rd (at ∷ path) h = (and_left (is_on 5 (rd at)) _ h, all_of rd path (and_right (is_on 5 (rd at)) _ h))

write_bit : (c : Control) (k : Access) → needed_of c.flags k / 8 % 2 ≡ one k.write
write_bit c k = omega (arith, one_le (k.write && (k.user || wp c.flags)), one_le k.user, one_le k.fetch, one_le k.write)

bits_are : (w : Bool) (x : ℕ) → x ≡ one w → 32 + x * 64 ≡ bits_of w
bits_are true x h = rw h
bits_are false x h = rw h

module _ (mem : Memory) (root a n need clear : ℕ) where
  abbrev lacks : ℕ
  lacks = bit_and n (bit_or need 16)

  abbrev has : ℕ
  has = bit_and (bit_xor n clear) clear

  module _ (c : Control) (k : Access) (ready : Ready c mem) (hn : need ≡ needed_of c.flags k) (hc : clear ≡ clear_of c.flags k) (s : Paged mem c a n) where
    abbrev p : Leaf
    p = s.leaf

    is : IsLeaf (entry_at mem) c p
    is = is_leaf mem c a p s.ends

    low : p.level ≤ 7
    low = omega (arith, is.high)

    aligned : p.base % 4096 ≡ 0
    aligned = leaf_base (entry_at mem) c p is

    lacks_is : lacks ≡ bit_and (pack_end (reached p) (all mem c a n)) (bit_or (needed_of c.flags k) 16)
    lacks_is = ap₂ bit_and s.number (ap (λ (z : ℕ). bit_or z 16) hn)

    has_is : has ≡ bit_and (bit_xor (pack_end (reached p) (all mem c a n)) (clear_of c.flags k)) (clear_of c.flags k)
    has_is = ap₂ bit_and (ap₂ bit_xor s.number hc) hc

    allowed : (eqb (lacks % 8) 0 && eqb has 0) ≡ allows c k p.rights
    allowed =
        ap₂ (λ (x y : ℕ). eqb (x % 8) 0 && eqb y 0) lacks_is has_is
        ∙ allow_test p (all mem c a n) low aligned c k

    level_is : n / 32 % 8 ≡ p.level
    level_is = ap level_in s.number ∙ page_level p (all mem c a n) low aligned

    -- marks alone are lacking, or nothing is: the page is found
    found : has ≡ 0 → lacks % 8 ≡ 0 → (mem' : Memory) → mem' ≡ accessed (reach_in mem c a).path (dirtied k.write p.at mem)
        → Did c k (reach_in mem c a) mem mem' (n - lacks)
    found g h mem' m =
        let y : allows c k p.rights ≡ true = sym allowed ∙ rw (eq-eqb _ 0 h, eq-eqb _ 0 g) in
        let e : n - lacks ≡ pack_page p.base p.level p.rights p.global (k.write || p.dirty) true =
        ap₂ (λ (x z : ℕ). x - z) s.number lacks_is
        ∙ marks_made p (all mem c a n) low aligned c k (sym (ap (λ (x : ℕ). x % 8) lacks_is) ∙ h) in
        record { number = e ∙ rw (s.ends, y); memory = m ∙ rw (s.ends, y) }

    -- where nothing is, the marks that the rules' walk makes are there
    nothing : has ≡ 0 → lacks ≡ 0 → Did c k (reach_in mem c a) mem mem n
    nothing g h =
        let (acc, kept) = has_marks p (all mem c a n) low aligned c k (sym lacks_is ∙ h) in
        let y : allows c k p.rights ≡ true = sym allowed ∙ rw (h, eq-eqb has 0 g) in
        let on : Marked k.write (reach_in mem c a) mem =
        record {
          path = all_of (entry_at mem) (reach_in mem c a).path acc;
          leaf = λ w. subst (LeafOn mem) (sym s.ends) (sym is.dirty ∙ not-false p.dirty (rw w at kept));
        } in
        let m : mem ≡ marked c k (reach_in mem c a).end (reach_in mem c a).path mem =
        sym (marked_same mem ready.whole c k (reach_in mem c a) (eights (entry_at mem) c a 4 c.root everything ready.aligned) on) in
        let e : n - lacks ≡ n = omega (arith, h) in
        subst (Did c k (reach_in mem c a) mem mem) e (found g (ap (λ (x : ℕ). x % 8) h) mem (rw (s.ends, y) at m))

    -- the page may not be used
    refused : (eqb (lacks % 8) 0 && eqb has 0) ≡ false → Did c k (reach_in mem c a) mem mem (n / 32 % 8 * 32 + 2)
    refused h =
        let y : allows c k p.rights ≡ false = sym allowed ∙ h in
        record { number = ap (λ (l : ℕ). l * 32 + 2) level_is ∙ rw (s.ends, y); memory = rw (s.ends, y) }

  way_fault : (eqb (lacks % 8) 0 && eqb has 0) ≡ false → (r : ℕ) → r ≡ pack_fault Protection (level_in n) → Settled mem mem root a n need clear r
  way_fault h r e =
      record {
        did = λ c k ready hr hn hc high packs.
            subst (Did c k (reach_in mem c a) mem mem) (sym e) (refused c k ready hn hc (paged mem c a n high packs) h);
      }

  pub way_kept_off : (has ≡ 0 → ⊥) → (r : ℕ) → r ≡ pack_fault Protection (level_in n) → Settled mem mem root a n need clear r
  way_kept_off h = way_fault (rw (ne_eqb _ 0 h) (same 1 (λ x. x && false) (λ x. false) refl (eqb (lacks % 8) 0)))

  pub way_refused : (lacks % 8 ≡ 0 → ⊥) → (r : ℕ) → r ≡ pack_fault Protection (level_in n) → Settled mem mem root a n need clear r
  way_refused h = way_fault (rw (ne_eqb _ 0 h))

  module _ (g : has ≡ 0) where
    pub way_done : lacks ≡ 0 → Settled mem mem root a n need clear n
    way_done h = record { did = λ c k ready hr hn hc high packs. nothing c k ready hn hc (paged mem c a n high packs) g h }

    pub way_marked : lacks % 8 ≡ 0 → (mem' : Memory)
        → MarkedDown mem mem' (a * 2 ^ 16 % 2 ^ 64) 4 root (n / 32 % 8) (32 + need / 8 % 2 * 64) → Settled mem mem' root a n need clear (n - lacks)
    way_marked h mem' d =
        record {
          did = λ c k ready hr hn hc high packs.
              let s : Paged mem c a n = paged mem c a n high packs in
              let from : MarkedDown mem mem' (a * 2 ^ 16 % 2 ^ 64) 4 c.root (n / 32 % 8) (32 + need / 8 % 2 * 64) =
              subst (λ (b : ℕ). MarkedDown mem mem' (a * 2 ^ 16 % 2 ^ 64) 4 b (n / 32 % 8) (32 + need / 8 % 2 * 64)) hr d in
              found c k ready hn hc s g h mem'
              (from.marks (entry_at mem) c a everything s.leaf k.write (λ i h. refl) ready.wide ready.narrow (omega arith) refl s.ends (sym (level_is c k ready hn hc s))
              (bits_are k.write (need / 8 % 2) (rw hn (write_bit c k))));
        }
