-- The walk: "The walk" of document 01. First which page an address reaches, whoever asks; then whether this access may use it.
use Rattle.std.specs.Prelude.{ℕ, zero, suc, ◌+◌, ◌*◌, Bool, true, false, cond, ◌||◌, List, [], ◌∷◌}
use Rattle.rules.specs.Bits.{is_on, part, field}
use Rattle.rules.specs.Sizes.{shift}
use Rattle.rules.specs.Memory.{Memory, entry_at, added}
use Rattle.rules.specs.Entries.{Entry, absent, bad, page, table, says, next, everything, also, allows}
use Rattle.rules.specs.declared.Control.{Control}
use Rattle.rules.specs.declared.Access.{Access}
use Rattle.rules.specs.declared.Rights.{Rights}
use Rattle.rules.specs.declared.Cause.{Cause}
use Rattle.rules.specs.declared.Cause.TheVariants.{NotPresent, Reserved, Protection}
use Rattle.rules.specs.declared.Found.{Found}
use Rattle.rules.specs.declared.Found.TheVariants.{Page, Fault}

-- the level of the table that CR3 points to; control is not asked yet: it waits for request W-209
abbrev pub top : Control → ℕ
top c = 4

-- at each level nine bits of the address choose the entry
abbrev pub index : ℕ → ℕ → ℕ
index level a = field (shift level + 9) (shift level) a

-- entries take eight bytes each
abbrev pub place : ℕ → ℕ → ℕ → ℕ
place level base a = base + 8 * index level a

-- ---- which page is reached
-- a page: where its entry stands; its level, and its base as far up as the width and down to the page's length; the rights over all entries on the
-- way; whether its entry says global, and dirty
pub record Leaf : Type 0 where
  pub at : ℕ
  pub level : ℕ
  pub base : ℕ
  pub rights : Rights
  pub global : Bool
  pub dirty : Bool

abbrev pub leaf_of : Control → ℕ → ℕ → ℕ → Rights → Leaf
leaf_of c level at e r =
    record { at = at; level = level; base = part c.width (shift level) e; rights = r; global = is_on 8 e; dirty = is_on 6 e }

-- how the walk ends, before rights are judged: at a page, or stuck at a level
pub data End : Type 0 where
  reached : Leaf → End
  stuck : Cause → ℕ → End

-- with the number of entries read, counted level by level, and their addresses, the top one first
pub record Reach : Type 0 where
  pub end : End
  pub read : ℕ
  pub path : List ℕ

-- the walk ends at this entry
abbrev pub end_at : ℕ → End → Reach
end_at at w = record { end = w; read = 1; path = at ∷ [] }

-- the walk goes on in the next table
abbrev pub onward : ℕ → Reach → Reach
onward at below = record { end = below.end; read = 1 + below.read; path = at ∷ below.path }

-- one step, by what the entry says; `below` is the walk from the next table on
abbrev pub step : Control → ℕ → ℕ → ℕ → Rights → Reach → Entry → Reach
step c level at e r below absent = end_at at (stuck NotPresent level)
step c level at e r below bad = end_at at (stuck Reserved level)
step c level at e r below page = end_at at (reached (leaf_of c level at e r))
step c level at e r below table = onward at below

-- every level that is left takes the same step. `rd` reads an entry and `r` are the rights so far; at level 1 no entry leads on, so level 0 is not reached
abbrev pub reach : (ℕ → ℕ) → Control → ℕ → ℕ → ℕ → Rights → Reach
reach rd c a zero base r = record { end = stuck NotPresent 0; read = 0; path = [] }
reach rd c a (suc n) base r =
    let at : ℕ = place (suc n) base a in
    let e : ℕ = rd at in
    step c (suc n) at e (also r e) (reach rd c a n (next c e) (also r e)) (says c (suc n) e)

-- ---- whether this access may use it: rights are looked at once the page is known, and not before
abbrev pub page_if : Bool → Access → Leaf → ℕ → Found
page_if true k p n = Page p.base p.level p.rights p.global (k.write || p.dirty) n
page_if false k p n = Fault Protection p.level n

abbrev pub judged : Control → Access → End → ℕ → Found
judged c k (reached p) n = page_if (allows c k p.rights) k p n
judged c k (stuck cause level) n = Fault cause level n

-- ---- what it writes: an access that succeeds marks each entry on its way as accessed (bit 5), and one that writes marks the page's as dirty (bit 6);
-- one that faults leaves memory alone
abbrev pub accessed : List ℕ → Memory → Memory
accessed [] mem = mem
accessed (at ∷ path) mem = added 5 at (accessed path mem)

abbrev pub dirtied : Bool → ℕ → Memory → Memory
dirtied true at mem = added 6 at mem
dirtied false at mem = mem

abbrev pub marked : Control → Access → End → List ℕ → Memory → Memory
marked c k (reached p) path mem = cond (allows c k p.rights) (accessed path (dirtied k.write p.at mem)) mem
marked c k (stuck cause level) path mem = mem

-- ---- the whole walk of an address: what it finds, and memory after it
pub record Walked : Type 0 where
  pub found : Found
  pub memory : Memory

abbrev pub reach_in : Memory → Control → ℕ → Reach
reach_in mem c a = reach (entry_at mem) c a (top c) c.root everything

abbrev pub walk : Control → Access → ℕ → Memory → Walked
walk c k a mem =
    let w : Reach = reach_in mem c a in
    record { found = judged c k w.end w.read; memory = marked c k w.end w.path mem }
