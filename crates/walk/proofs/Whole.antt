-- The whole walk, from the top level on: what the number that comes back says is what the rules' walk finds, its count included.
-- The count follows from the level at which the walk ended, since each level that is passed is an entry read.
use Prim.Native.Nat.{ℕ, ◌+◌, ◌-◌, ◌*◌, ◌/◌, ◌%◌, ◌^◌, ◌≤◌, ◌<◌}
use mathlib.Core.Path.{◌≡◌, refl, ap, ◌∙◌}
use mathlib.Core.Bool.{Bool, true, false, ◌||◌}
use native.Mathlib.Omega.{arith}
use Rattle.rules.specs.Memory.{Memory, entry_at}
use Rattle.rules.specs.Entries.{everything, allows}
use Rattle.rules.specs.Walk.{Leaf, End, reached, stuck, Reach, page_if, judged, reach_in, Walked, walk}
use Rattle.rules.specs.declared.Control.{Control}
use Rattle.rules.specs.declared.Access.{Access}
use Rattle.rules.specs.declared.Cause.TheVariants.{Protection}
use Rattle.rules.specs.declared.Found.{Found}
use Rattle.rules.proofs.WalkLaws.{end_level, ended, is_leaf, leaf_base}
use Rattle.numbers.specs.Needs.{needed_of, ForEach, Known}
use Rattle.numbers.proofs.Laws.{clear_is}
use Rattle.walk.specs.Packed.{Ready, bars_of, pack_end, pack_reach, all_accessed, pack_found, level_in, unpack_of, Did, Settled, Down, Walks}
use Rattle.walk.proofs.Packing.{page_high, page_level, page_back, fault_level, fault_back}

-- ---- a finding is read back from its number, and its level
abbrev end_base : End → ℕ
end_base (reached p) = p.base
end_base (stuck cause level) = 0

module _ (c : Control) (k : Access) (n : ℕ) where
  abbrev Back : Found → ℕ → Found → Type 0
  Back f level g = (level_in (pack_found f) ≡ level) × (unpack_of (pack_found f) ≡ g)

  back : (w : End) → end_level w ≤ 7 → end_base w % 4096 ≡ 0 → n ≡ 5 - end_level w → Back (judged c k w 0) (end_level w) (judged c k w n)
  back (stuck cause level) h b m = (fault_level cause level h, fault_back cause level h n m)
  back (reached p) h b m = go (allows c k p.rights)
    where
      written : Leaf
      written = record { at = p.at; level = p.level; base = p.base; rights = p.rights; global = p.global; dirty = k.write || p.dirty }

      go : (y : Bool) → Back (page_if y k p 0) p.level (page_if y k p n)
      go true = (page_level written true h b, page_back written true h b n m)
      go false = (fault_level Protection p.level h, fault_back Protection p.level h n m)

-- ---- the ways out of `walk`
module _ (mem : Memory) (c : Control) (a : ℕ) where
  abbrev reaches : Reach
  reaches = reach_in mem c a

  passed : end_level reaches.end + reaches.read ≡ 5
  passed = ended (entry_at mem) c a 4 c.root everything (omega arith)

  base_low : end_base reaches.end % 4096 ≡ 0
  base_low = go reaches.end refl
    where
      go : (w : End) → reaches.end ≡ w → end_base w % 4096 ≡ 0
      go (reached p) e = leaf_base (entry_at mem) c p (is_leaf mem c a p e)
      go (stuck cause level) e = refl

  both : (k : Access) → Back c k reaches.read (judged c k reaches.end 0) (end_level reaches.end) (judged c k reaches.end reaches.read)
  both k = back c k reaches.read reaches.end (omega (arith, passed)) base_low (omega (arith, passed))

  module _ (k : Access) (mem' : Memory) (m : ℕ) (did : Did c k (reach_in mem c a) mem mem' m) where
    level_fits : level_in m ≤ 5
    level_fits = omega (arith, passed, ap level_in did.number ∙ (both k).0)

    walked : (r : Found) → r ≡ unpack_of m → ◌≡◌ {A = Walked} (record { found = r; memory = mem' }) (walk c k a mem)
    walked r h = λ i. record { found = (h ∙ ap unpack_of did.number ∙ (both k).1) i; memory = did.memory i }

  module _ (access bars n : ℕ) (ready : Ready c mem) (known : Known c.flags access) (bars_are : bars ≡ bars_of c) (down : Down mem (a * 2 ^ 16 % 2 ^ 64) 4 c.root 0 bars n) where
    packs : n ≡ pack_reach true (entry_at mem) reaches
    packs = down.finds c a (record { wide = ready.wide; narrow = ready.narrow; are = bars_are }) refl

    -- stuck
    fell : n < 2048 → (k : Access) → Did c k reaches mem mem n
    fell h k = go reaches.end refl
      where
        go : (w : End) → reaches.end ≡ w → Did c k reaches mem mem n
        go (stuck cause level) e = record { number = packs ∙ rw e; memory = rw e }
        go (reached p) e =
            let q : n ≡ pack_end (reached p) (all_accessed (entry_at mem) reaches.path) = rw e at packs in
            absurd (omega (arith, page_high p (all_accessed (entry_at mem) reaches.path)))

    pub stuck_fits : n < 2048 → level_in n ≤ 5
    stuck_fits h = level_fits known.access mem n (fell h known.access)

    pub stuck_walked : n < 2048 → (r : Found) → r ≡ unpack_of n → Walks c access a mem mem r
    stuck_walked h r e = record { walks = λ k q. walked k mem n (fell h k) r e }

    module _ (high : 2048 ≤ n) (need m : ℕ) (mem' : Memory) (needs : ForEach c.flags access (λ k. need ≡ needed_of c.flags k))
        (settled : Settled mem mem' c.root a n need (access / 8) m) where
      did : ForEach c.flags access (λ k. Did c k reaches mem mem' m)
      did k is = settled.did c k ready refl (needs k is) (clear_is c.flags access k is) high packs

      pub page_fits : level_in m ≤ 5
      page_fits = level_fits known.access mem' m (did known.access known.is)

      pub page_walked : (r : Found) → r ≡ unpack_of m → Walks c access a mem mem' r
      page_walked r e = record { walks = λ k is. walked k mem' m (did k is) r e }
