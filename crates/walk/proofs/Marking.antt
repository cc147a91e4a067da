-- A walk that ended at a page, made again and marking as it goes: what it writes is what the rules' walk writes. Each entry is read before it is marked, and the
-- marks above it do not lead it elsewhere (`Grown`).
use Prim.Native.Nat.{ℕ, ◌+◌, ◌-◌, ◌*◌, ◌/◌, ◌%◌, ◌^◌, ◌≤◌, ◌<◌}
use mathlib.Core.Path.{◌≡◌, refl, ap, sym, ◌∙◌, subst}
use mathlib.Core.Bool.{Bool, true, false}
use mathlib.Core.List.{List, [], ◌∷◌}
use native.Mathlib.Omega.{arith}
use native.Mathlib.Nat.{add-zero}
use native.Mathlib.Decide.{dec_lt, ℕ_discrete}
use lib.ListN.{length, get_or, set}
use lib.Seq.{set-set, get_or-set_same}
use lib.Bits.{bit_and, bit_or, and_zero_r, or_add_and}
use borrow.Author.Tests.{lt-ltb}
use Rattle.rules.specs.Bits.{is_on, with_bit, part, one}
use Rattle.rules.specs.Memory.{Memory, both, high_base, entry_in, entry_at, added, Whole}
use Rattle.rules.specs.Entries.{Entry, absent, bad, page, table, sorted, says, is_page, next, also}
use Rattle.rules.specs.Walk.{place, Leaf, End, reached, stuck, Reach, step, reach, accessed, dirtied}
use Rattle.rules.specs.declared.Control.{Control}
use Rattle.rules.specs.declared.Rights.{Rights}
use Rattle.rules.specs.declared.Cause.{Cause}
use Rattle.rules.proofs.BoolLaws.{or_left}
use Rattle.rules.proofs.BitLaws.{part_high, set_other, one_le, on_one}
use Rattle.rules.proofs.FormatLaws.{is_common, says_by_size}
use Rattle.rules.proofs.MemoryLaws.{added_order}
use Rattle.rules.proofs.Grown.{grown_added}
use Rattle.rules.proofs.WalkLaws.{reach_step, end_level, end_low, last_table}
use Rattle.words.proofs.Masks.{and_flag}
use Rattle.walk.specs.Packed.{slid, bits_of, marked_in, MarksIn, marked_at, Marks, LeadsAlike, MarkedDown}
use Rattle.walk.proofs.Masks.{cut}
use Rattle.walk.proofs.Steps.{slid_index, slid_next, narrow}

-- ---- a byte and its marks
and_accessed : (x : ℕ) → bit_and x 32 ≡ one (is_on 5 x) * 32
and_accessed x = and_flag 5 x 0 (omega arith) true ∙ ap (λ (z : ℕ). one (is_on 5 x) * 32 + z) (and_zero_r x) ∙ add-zero (one (is_on 5 x) * 32)

or_accessed : (x : ℕ) → bit_or x 32 ≡ with_bit 5 x
or_accessed x = omega (arith, or_add_and x 32, and_accessed x, on_one 5 x, one_le (is_on 5 x))

or_both : (x : ℕ) → bit_or x 96 ≡ with_bit 5 (with_bit 6 x)
or_both x =
    rw (set_other 5 6 x (omega arith))
    (omega (arith, or_add_and x 96, and_flag 6 x 32 (omega arith) true, and_accessed x, on_one 5 x, on_one 6 x, one_le (is_on 5 x), one_le (is_on 6 x)))

-- ---- the ways out of `mark_in`
module _ (part : List ℕ) (at bits e : ℕ) (reads : e ≡ entry_in part at) where
  set_marks : at < length part → (dirty : Bool) → bits ≡ bits_of dirty → set part at (bit_or (get_or part at 0) bits) ≡ marked_in dirty at part
  set_marks h false q = rw (q, or_accessed (get_or part at 0))
  set_marks h true q =
      rw (q, or_both (get_or part at 0), set-set part at (with_bit 6 (get_or part at 0)), get_or-set_same part at (with_bit 6 (get_or part at 0)) 0 h)

  pub mark_inside : at < length part → MarksIn part (set part at (bit_or (get_or part at 0) bits)) at bits e
  mark_inside h = record { entry = reads; marked = set_marks h }

-- ---- and of `mark`
module _ (low high : List ℕ) (at bits e : ℕ) where
  pub mark_low : at < high_base → (low' : List ℕ) → MarksIn low low' at bits e → Marks (both low high) (both low' high) at bits e
  mark_low h low' m = record { entry = m.entry ∙ rw (lt-ltb at high_base h); marked = go }
    where
      go : (dirty : Bool) → bits ≡ bits_of dirty → both low' high ≡ marked_at dirty at (both low high)
      go true q = rw (lt-ltb at high_base h) (ap (λ (l : List ℕ). both l high) (m.marked true q))
      go false q = rw (lt-ltb at high_base h) (ap (λ (l : List ℕ). both l high) (m.marked false q))

-- ---- where a walk that reaches a page has it: in the entry of this level, or beyond the next table
abbrev at_of : End → ℕ
at_of (reached p) = p.at
at_of (stuck cause level) = 0

stuck_not : {cause : Cause} {level : ℕ} {p : Leaf} → stuck cause level ≡ reached p → ⊥
stuck_not h = let z : ◌≡◌ {A = ℕ} 0 1 = cc in omega arith

module _ (rd : ℕ → ℕ) (c : Control) (a level base : ℕ) (r : Rights) (p : Leaf) (ends : (reach rd c a level base r).end ≡ reached p) where
  abbrev at : ℕ
  at = place level base a

  abbrev e : ℕ
  e = rd at

  abbrev below : Reach
  below = reach rd c a (level - 1) (next c e) (also r e)

  abbrev stepped : Entry → Reach
  stepped v = step c level at e (also r e) below v

  ends_step : 0 < level → (stepped (says c level e)).end ≡ reached p
  ends_step h = ap (λ (w : Reach). w.end) (sym (reach_step rd c a level base r h)) ∙ ends

  pub some_level : 0 < level
  some_level = go (dec_lt 0 level)
    where
      go : Dec (0 < level) → 0 < level
      go (yes h) = h
      go (no h) =
          let q : level ≡ 0 = omega arith in
          absurd (stuck_not (rw q at ends))

  -- a table's page stands at a lower level
  lower : says c level e ≡ table → below.end ≡ reached p → p.level < level
  lower q h = go (ℕ_discrete level 1)
    where
      go : Dec (level ≡ 1) → p.level < level
      go (yes l) = absurd (last_table c (rd (place 1 base a)) (rw l at q))
      go (no n) = omega (arith, some_level, ap end_level h, end_low rd c a (level - 1) (next c e) (also r e) (omega (arith, some_level)))

  by : (C : Reach → Type 0) → ((v : Entry) → says c level e ≡ v → (stepped v).end ≡ reached p → C (stepped v)) → C (reach rd c a level base r)
  by C f = subst C (sym (reach_step rd c a level base r some_level)) (f (says c level e) refl (ends_step some_level))

  pub here : level ≤ p.level → ((reach rd c a level base r).path ≡ at ∷ []) × (p.at ≡ at)
  here h = by (λ w. (w.path ≡ at ∷ []) × (p.at ≡ at)) go
    where
      go : (v : Entry) → says c level e ≡ v → (stepped v).end ≡ reached p → ((stepped v).path ≡ at ∷ []) × (p.at ≡ at)
      go absent q g = absurd (stuck_not g)
      go bad q g = absurd (stuck_not g)
      go page q g = (refl, sym (ap at_of g))
      go table q g = absurd (omega (arith, lower q g))

  pub beyond : p.level < level → (says c level e ≡ table) × (((reach rd c a level base r).path ≡ at ∷ below.path) × (below.end ≡ reached p))
  beyond h = by (λ w. (says c level e ≡ table) × ((w.path ≡ at ∷ below.path) × (below.end ≡ reached p))) go
    where
      go : (v : Entry) → says c level e ≡ v → (stepped v).end ≡ reached p
          → (says c level e ≡ table) × (((stepped v).path ≡ at ∷ below.path) × (below.end ≡ reached p))
      go absent q g = absurd (stuck_not g)
      go bad q g = absurd (stuck_not g)
      go page q g = absurd (omega (arith, ap end_level g))
      go table q g = (q, (refl, g))

-- a table has no reserved bit
not_reserved : (p b l : Bool) → sorted p b l ≡ table → b ≡ false
not_reserved false b l h = let z : ◌≡◌ {A = ℕ} 0 1 = cc in absurd (omega arith)
not_reserved true true l h = let z : ◌≡◌ {A = ℕ} 0 1 = cc in absurd (omega arith)
not_reserved true false l h = refl

leads_on : (c : Control) (level e : ℕ) → 36 ≤ c.width → c.width ≤ 52 → 0 < level → level ≤ 4 → says c level e ≡ table → part 52 12 e ≡ next c e
leads_on c level e w n pos high h =
    let b : is_common c e ≡ false = or_left (is_common c e) _ (not_reserved (is_on 0 e) _ (is_page level e) (sym (says_by_size c level e pos high) ∙ h)) in
    cut c.width 12 e n (omega arith) (narrow c e b)

-- ---- marks in one order or another
accessed_later : (path : List ℕ) (at : ℕ) (mem : Memory) → accessed path (added 5 at mem) ≡ added 5 at (accessed path mem)
accessed_later [] at mem = refl
accessed_later (x ∷ path) at mem = ap (added 5 x) (accessed_later path at mem) ∙ added_order 5 5 x at (accessed path mem)

dirtied_later : (dirty : Bool) (x at : ℕ) (mem : Memory) → dirtied dirty x (added 5 at mem) ≡ added 5 at (dirtied dirty x mem)
dirtied_later true x at mem = added_order 6 5 x at mem
dirtied_later false x at mem = refl

-- a mark does not lead elsewhere
leads_later : (rd : ℕ → ℕ) (at : ℕ) (mem : Memory) → at % 8 ≡ 0 → LeadsAlike rd mem → LeadsAlike rd (added 5 at mem)
leads_later rd at mem e f i h = f i h ∙ part_high 7 52 12 _ _ (omega arith) ((grown_added 5 at mem (omega arith) (omega arith) e).entries i h).high

-- ---- the ways through `mark_down`: at the page, and at a table
module _ (mem : Memory) (x level base last bits at : ℕ) (stands : at ≡ base + 8 * (x / 2 ^ 55)) where
  stands_at : (a : ℕ) → level ≤ 4 → x ≡ slid level a → at ≡ place level base a
  stands_at a high hx = stands ∙ ap (λ (z : ℕ). base + 8 * z) (ap (λ (z : ℕ). z / 2 ^ 55) hx ∙ slid_index level a high)

  pub way_leaf : level ≤ last → (mem' : Memory) → ((dirty : Bool) → bits ≡ bits_of dirty → mem' ≡ marked_at dirty at mem)
      → MarkedDown mem mem' x level base last bits
  way_leaf h mem' m =
      record {
        marks = λ rd c a r p dirty alike wide narrow high hx ends hl hb.
            let (path, leaf) = here rd c a level base r p ends (omega arith) in
            m dirty hb ∙ rw (path, leaf, ← stands_at a high hx);
      }

  module _ (more : last < level) (eight : at % 8 ≡ 0) (e : ℕ) (reads : e ≡ entry_at mem at) (mem₁ : Memory)
      (marked : (dirty : Bool) → 32 ≡ bits_of dirty → mem₁ ≡ marked_at dirty at mem) (next-base : ℕ) (leads : next-base ≡ part 52 12 e) where
    pub way_table : (mem₂ : Memory) → MarkedDown mem₁ mem₂ (x * 2 ^ 9 % 2 ^ 64) (level - 1) next-base last bits → MarkedDown mem mem₂ x level base last bits
    way_table mem₂ d =
        record {
          marks = λ rd c a r p dirty alike wide narrow high hx ends hl hb.
              let (is-table, (path, lower)) = beyond rd c a level base r p ends (omega arith) in
              let pos : 0 < level = some_level rd c a level base r p ends in
              let hat : place level base a ≡ at = sym (stands_at a high hx) in
              let to : next-base ≡ next c (rd at) =
              leads ∙ ap (part 52 12) reads ∙ sym (alike at eight) ∙ leads_on c level (rd at) wide narrow pos high (rw hat at is-table) in
              let from : MarkedDown mem₁ mem₂ (x * 2 ^ 9 % 2 ^ 64) (level - 1) (next c (rd at)) last bits =
              subst (λ (b : ℕ). MarkedDown mem₁ mem₂ (x * 2 ^ 9 % 2 ^ 64) (level - 1) b last bits) to d in
              let way : List ℕ = (reach rd c a (level - 1) (next c (rd at)) (also r (rd at))).path in
              let path' : (reach rd c a level base r).path ≡ at ∷ way = rw hat at path in
              from.marks rd c a (also r (rd at)) p dirty (subst (LeadsAlike rd) (sym (marked false refl)) (leads_later rd at mem eight alike)) wide narrow
              (omega arith) (ap (λ (z : ℕ). z * 2 ^ 9 % 2 ^ 64) hx ∙ slid_next level a pos high) (rw hat at lower) hl hb
              ∙ ap (accessed way) (ap (dirtied dirty p.at) (marked false refl) ∙ dirtied_later dirty p.at at mem)
              ∙ accessed_later way at (dirtied dirty p.at mem)
              ∙ ap (λ (l : List ℕ). accessed l (dirtied dirty p.at mem)) (sym path');
        }

-- before each turn: what is left to do, once it is done, is the whole
pub record Going (low₀ high₀ : List ℕ) (root a last bits : ℕ) (low high : List ℕ) (base x level : ℕ) : Type 0 where
  pub same_low : length low ≡ length low₀
  pub same_high : length high ≡ length high₀
  pub whole : Whole (both low high)
  pub below : base < 2 ^ 52
  pub eight : base % 8 ≡ 0
  pub rest : (mem' : Memory) → MarkedDown (both low high) mem' x level base last bits → MarkedDown (both low₀ high₀) mem' (slid 4 a) 4 root last bits

module _ (low₀ high₀ : List ℕ) (root a last bits : ℕ) (low high : List ℕ) (base x level : ℕ) (g : Going low₀ high₀ root a last bits low high base x level)
    (at e : ℕ) (low₁ high₁ : List ℕ) (stands : at ≡ base + 8 * (x / 2 ^ 55)) where
  pub going_more : last < level → at % 8 ≡ 0 → Marks (both low high) (both low₁ high₁) at 32 e → length low₁ ≡ length low → length high₁ ≡ length high
      → (to : ℕ) → to ≡ part 52 12 e → to < 2 ^ 52 → to % 8 ≡ 0 → Going low₀ high₀ root a last bits low₁ high₁ to (x * 2 ^ 9 % 2 ^ 64) (level - 1)
  going_more more i m hl hh to leads h t =
      record {
        same_low = hl ∙ g.same_low;
        same_high = hh ∙ g.same_high;
        whole = record { low = rw hl g.whole.low; high = rw hh g.whole.high; below = rw hl g.whole.below };
        below = h;
        eight = t;
        rest =
            λ mem' d.
            g.rest mem'
            (way_table (both low high) x level base last bits at stands more i e m.entry (both low₁ high₁) m.marked to leads mem' d);
      }

  pub going_all : level ≤ last → Marks (both low high) (both low₁ high₁) at bits e → MarkedDown (both low₀ high₀) (both low₁ high₁) (slid 4 a) 4 root last bits
  going_all h m = g.rest (both low₁ high₁) (way_leaf (both low high) x level base last bits at stands h (both low₁ high₁) m.marked)
