-- A walk only adds bits 5 and 6 to entries of memory, so memory after it holds every entry as it was but for those bits, none of them taken
-- away, through every call, and any walk made again ends alike. Entries stand at multiples of 8, so that two of them are one or share no byte.
use Prim.Native.Nat.{ℕ, zero, suc, ◌+◌, ◌-◌, ◌*◌, ◌%◌, ◌^◌, ◌≤◌, ◌<◌}
use mathlib.Core.Path.{◌≡◌, refl, ap, sym, ◌∙◌, subst}
use mathlib.Core.Bool.{Bool, true, false}
use mathlib.Core.List.{List, [], ◌∷◌}
use native.Mathlib.Omega.{arith}
use native.Mathlib.Decide.{ℕ_discrete}
use lib.Pow.{mod-mod-pow}
use Rattle.rules.specs.Bits.{is_on, part, with_bit}
use Rattle.rules.specs.Image.{Image, decode, root, control}
use Rattle.rules.specs.Memory.{Memory, entry_at, added}
use Rattle.rules.specs.Entries.{Entry, absent, bad, page, table, says, next, also, allows, everything}
use Rattle.rules.specs.Walk.{top, index, place, End, reached, stuck, Reach, step, reach, accessed, dirtied, marked, reach_in, walk}
use Rattle.rules.specs.Refusals.{Request, start_with, translate, invlpg, invpcid, write_cr3, write_mode}
use Rattle.rules.specs.Calls.{After, access_of, accepted, Outcome, call}
use Rattle.rules.specs.declared.Control.{Control}
use Rattle.rules.specs.declared.Access.{Access}
use Rattle.rules.specs.declared.Rights.{Rights}
use Rattle.rules.proofs.BoolLaws.{either}
use Rattle.rules.proofs.BitLaws.{above, set_above, set_below, set_keeps, part_multiple}
use Rattle.rules.proofs.MemoryLaws.{SameLengths, added_lengths, same_entry, other_entry}
use Rattle.rules.proofs.Alike.{AllOf, Alike, SameIndex, reach_alike, ButMarks, Agree, blind}
use Rattle.rules.proofs.WalkLaws.{end_level}
use Rattle.rules.proofs.CallWays.{Called, taken, refused, called, Way, unpaged, answered, walks, way}

-- ---- the addresses that a walk reads are multiples of 8
abbrev pub Eight : ℕ → Type 0
Eight at = at % 8 ≡ 0

abbrev pub LeafEight : End → Type 0
LeafEight (reached p) = Eight p.at
LeafEight (stuck cause level) = Unit {0}

pub record Eights (w : Reach) : Type 0 where
  pub path : AllOf Eight w.path
  pub leaf : LeafEight w.end

place_eight : (base i : ℕ) → Eight base → Eight (base + 8 * i)
place_eight base i h = omega arith

pub next_eight : (c : Control) (e : ℕ) → Eight (next c e)
next_eight c e = go (part c.width 12 e) (part_multiple c.width 12 e)
  where
    go : (x : ℕ) → x % 2 ^ 12 ≡ 0 → Eight x
    go x h = omega arith

pub root_eight : (s : Image) → Eight (root s)
root_eight s = next_eight (control s) s.cr3

pub eights : (rd : ℕ → ℕ) (c : Control) (a level base : ℕ) (r : Rights) → Eight base → Eights (reach rd c a level base r)
eights rd c a zero base r h = record { path = tt; leaf = tt }
eights rd c a (suc n) base r h =
    go (place (suc n) base a) (place_eight base (index (suc n) a) h) (says c (suc n) e) (reach rd c a n (next c e) (also r e)) (eights rd c a n (next c e) (also r e) (next_eight c e))
  where
    e : ℕ
    e = rd (place (suc n) base a)

    go : (at : ℕ) → Eight at → (v : Entry) (below : Reach) → Eights below → Eights (step c (suc n) at e (also r e) below v)
    go at g absent below i = record { path = (g, tt); leaf = tt }
    go at g bad below i = record { path = (g, tt); leaf = tt }
    go at g page below i = record { path = (g, tt); leaf = g }
    go at g table below i = record { path = (g, i.path); leaf = i.leaf }

-- ---- bits 5 and 6 added to a number
set_marks : (k x : ℕ) → 5 ≤ k → k < 7 → ButMarks x (with_bit k x)
set_marks k x h g =
    record {
      high = sym (above (suc k) 7 _ _ g (set_above k x));
      low = sym (cut x) ∙ ap (λ (z : ℕ). z % 2 ^ 5) (sym (set_below k x)) ∙ cut (with_bit k x);
    }
  where
    cut : (z : ℕ) → z % 2 ^ k % 2 ^ 5 ≡ z % 2 ^ 5
    cut z =
        let q : k - 5 + 5 ≡ k = omega arith in
        rw q at (mod-mod-pow z (k - 5) 5)

-- ---- memory that holds every entry as it was but for bits 5 and 6 added
pub record Grown (mem mem' : Memory) : Type 0 where
  pub lengths : SameLengths mem mem'
  pub entries : (at : ℕ) → Eight at → ButMarks (entry_at mem at) (entry_at mem' at)
  pub stays : (k at : ℕ) → Eight at → is_on k (entry_at mem at) ≡ true → is_on k (entry_at mem' at) ≡ true

pub grown_none : (mem : Memory) → Grown mem mem
grown_none mem = record { lengths = record { low = refl; high = refl }; entries = λ at h. record { high = refl; low = refl }; stays = λ k at h on. on }

pub grown_on : (m₁ m₂ m₃ : Memory) → Grown m₁ m₂ → Grown m₂ m₃ → Grown m₁ m₃
grown_on m₁ m₂ m₃ g h =
    record {
      lengths = record { low = g.lengths.low ∙ h.lengths.low; high = g.lengths.high ∙ h.lengths.high };
      entries = λ at e. record { high = (g.entries at e).high ∙ (h.entries at e).high; low = (g.entries at e).low ∙ (h.entries at e).low };
      stays = λ k at e on. h.stays k at e (g.stays k at e on);
    }

pub grown_added : (k a : ℕ) (mem : Memory) → 5 ≤ k → k < 7 → Eight a → Grown mem (added k a mem)
grown_added k a mem h g ea =
    record {
      lengths = added_lengths k a mem;
      entries = λ at e. go at e (λ x. ButMarks (entry_at mem at) x) (λ q. rw (← q) (set_marks k (entry_at mem a) h g)) (record { high = refl; low = refl });
      stays = λ j at e on. go at e (λ x. is_on j x ≡ true) (λ q. set_keeps k j (entry_at mem a) (rw q on)) on;
    }
  where
    -- an entry after it is the one with the bit set, or as it was
    go : (at : ℕ) → Eight at → (P : ℕ → Type 0) → (a ≡ at → P (with_bit k (entry_at mem a))) → P (entry_at mem at) → P (entry_at (added k a mem) at)
    go at e P f p = by (ℕ_discrete a at)
      where
        by : Dec (a ≡ at) → P (entry_at (added k a mem) at)
        by (yes q) = rw (← q, same_entry k a mem (omega arith)) (f q)
        by (no n) = rw (other_entry k a at mem ea e n) p

-- ---- what a walk writes
module _ (mem : Memory) where
  pub grown_accessed : (path : List ℕ) (mem' : Memory) → AllOf Eight path → Grown mem mem' → Grown mem (accessed path mem')
  grown_accessed [] mem' h g = g
  grown_accessed (at ∷ path) mem' h g =
      grown_on mem (accessed path mem') _ (grown_accessed path mem' h.1 g) (grown_added 5 at (accessed path mem') (omega arith) (omega arith) h.0)

  pub grown_dirtied : (b : Bool) (at : ℕ) → Eight at → Grown mem (dirtied b at mem)
  grown_dirtied true at h = grown_added 6 at mem (omega arith) (omega arith) h
  grown_dirtied false at h = grown_none mem

  pub grown_marked : (c : Control) (k : Access) (w : Reach) → Eights w → Grown mem (marked c k w.end w.path mem)
  grown_marked c k w h = go w.end h.leaf
    where
      go : (e : End) → LeafEight e → Grown mem (marked c k e w.path mem)
      go (stuck cause level) l = grown_none mem
      go (reached p) l =
          either (Grown mem) (allows c k p.rights) _ mem
          (λ e. grown_accessed w.path _ h.path (grown_dirtied k.write p.at l)) (λ e. grown_none mem)

pub walk_grows : (c : Control) (k : Access) (a : ℕ) (mem : Memory) → Eight c.root → Grown mem (walk c k a mem).memory
walk_grows c k a mem h = grown_marked mem c k (reach_in mem c a) (eights (entry_at mem) c a (top c) c.root everything h)

-- ---- so memory grows through every call
way_grows : (s : Image) (mem : Memory) (k : Access) (a : ℕ) {o : After} → Way s mem k a o → Grown mem o.memory
way_grows s mem k a (unpaged off) = grown_none mem
way_grows s mem k a (answered on i e g) = grown_none mem
way_grows s mem k a (walks on un) = walk_grows (control s) k a mem (root_eight s)

accepted_grows : (s : Image) (mem : Memory) (q : Request) → Grown mem (accepted s mem q).memory
accepted_grows s mem (start_with w f) = grown_none mem
accepted_grows s mem (translate k a ac) = way_grows s mem (access_of k ac) a (way s mem (access_of k ac) a)
accepted_grows s mem (invlpg a) = grown_none mem
accepted_grows s mem (invpcid t p a) = grown_none mem
accepted_grows s mem (write_cr3 v) = grown_none mem
accepted_grows s mem (write_mode v) = grown_none mem

pub call_grows : (b : List ℕ) (mem : Memory) (q : Request) → Grown mem (call b mem q).memory
call_grows b mem q = go (called b mem q)
  where
    go : {o : Outcome} → Called b mem q o → Grown mem o.memory
    go (taken e) = accepted_grows (decode b) mem q
    go (refused n e) = grown_none mem

-- ---- and a walk in grown memory ends alike
all_eights : (P : ℕ → Type 0) (path : List ℕ) → ((at : ℕ) → Eight at → P at) → AllOf Eight path → AllOf P path
all_eights P [] f h = tt
all_eights P (x ∷ xs) f h = (f x h.0, all_eights P xs f h.1)

pub walk_again : (c c' : Control) (a b : ℕ) (mem mem' : Memory) → 7 ≤ c.width → Eight c.root → Agree c c' → c.root ≡ c'.root
    → SameIndex (end_level (reach_in mem c a).end) (top c) a b → Grown mem mem' → Alike (λ r s. r ≡ s) (reach_in mem c a) (reach_in mem' c' b)
walk_again c c' a b mem mem' w h same e i g =
    subst (λ (r : ℕ). Alike (λ r s. r ≡ s) (reach_in mem c a) (reach (entry_at mem') c' b (top c) r everything)) e
    (reach_alike (entry_at mem) (entry_at mem') c c' ButMarks (λ r s. r ≡ s) (blind c c' same w) a b (top c) c.root everything everything refl
    (all_eights _ (reach_in mem c a).path g.entries (eights (entry_at mem) c a (top c) c.root everything h).path) i)
