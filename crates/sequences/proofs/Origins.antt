-- Every held slot has an origin: a translate of the history whose walk filled it, and no call since then covers it. By induction over the history: start
-- holds nothing, and the last call's fate of the slot says whether the slot is as it was before or was filled just now.
-- What a filled slot says, read back from its two words, is what its walk found; and for every address of its page a walk that reads alike finds the same.
-- So where the slot answers, it answers as the walk of its origin does, judged now.
use Prim.Native.Nat.{ℕ, suc, ◌+◌, ◌/◌, ◌%◌}
use mathlib.Core.Path.{◌≡◌, refl, ap, sym, ◌∙◌, subst}
use mathlib.Core.Bool.{Bool, true, false, ◌&&◌, ◌||◌, not, true≢false, and-false}
use native.Mathlib.Omega.{arith}
use lib.Dec.{eqb, eqb-suc-zero}
use borrow.Author.Tests.{eqb-true, eq-eqb}
use Rattle.rules.specs.Bits.{part}
use Rattle.rules.specs.Sizes.{shift, Is, size_at, size_of, set_of, page_number}
use Rattle.rules.specs.Image.{Slot, Image, none, control, root, pge, pcid, is_held, is_global, pcid_in, page_in, rights_in, is_dirty}
use Rattle.rules.specs.Memory.{Memory, entry_at}
use Rattle.rules.specs.Entries.{allows}
use Rattle.rules.specs.Walk.{Leaf, End, reached, stuck, reach_in, judged, page_if}
use Rattle.rules.specs.Buffer.{contains, serves, hit_address}
use Rattle.rules.specs.Answers.{answer_of}
use Rattle.rules.specs.Refusals.{Request, translate, refusal}
use Rattle.rules.specs.Calls.{access_of}
use Rattle.rules.specs.declared.Size.{Size}
use Rattle.rules.specs.declared.Control.{Control}
use Rattle.rules.specs.declared.Access.{Access}
use Rattle.rules.specs.declared.Rights.{Rights}
use Rattle.rules.specs.declared.Answer.TheVariants.{Address}
use Rattle.rules.proofs.BoolLaws.{and_left, and_right}
use Rattle.rules.proofs.SizeLaws.{size_at_lem, level_at, slot_size, page_lt, tag_page, tag_pcid, tag_global, rights_back, dirty_back, base_back}
use Rattle.rules.proofs.WalkLaws.{end_level, IsLeaf, is_leaf, leaf_base}
use Rattle.rules.proofs.Alike.{EndAlike, Alike, SameIndex, same_index, Agree}
use Rattle.rules.proofs.Grown.{Grown, root_eight, walk_again}
use Rattle.rules.proofs.RefusalLaws.{Fit, given}
use Rattle.rules.proofs.SoundLaws.{pcid_lt}
use Rattle.sequences.specs.History.{History, begun, ◌then◌with◌, bytes, image}
use Rattle.sequences.specs.Covers.{Who, covers, covered}
use Rattle.sequences.specs.Spans.{Since, moment, later}
use Rattle.sequences.specs.Claims.{but_count}
use Rattle.sequences.proofs.Images.{image_start, image_cases}
use Rattle.sequences.specs.Drops.{who_of, IsPlaced, Placed}
use Rattle.sequences.proofs.Fates.{UncoveredSlot, Filled, Fate, gone, kept, fills, fate}

abbrev pub Origin : ℕ → Slot → History → Type 0
Origin i t h = Since (UncoveredSlot i t.tag) (Filled i t) h

-- a refused call covers nothing
refused_covers : (who : Who) (a : ℕ) (h : History) (mem : Memory) (q : Request) (n : ℕ) → refusal (bytes h) mem q ≡ suc n → covered who a h mem q ≡ false
refused_covers who a h mem q n r = rw (r, eqb-suc-zero n) (and-false (covers who a (image h) q))

pub origin : (h : History) (i : ℕ) (t : Slot) → (image h).slots i ≡ t → is_held t.tag ≡ true → Origin i t h
origin h i t e held = go h e
  where
    never : {A : Type 0} → t ≡ none → A
    never e = absurd (true≢false (sym held ∙ ap (λ (x : Slot). is_held x.tag) e))

    go : (h : History) → (image h).slots i ≡ t → Origin i t h
    go (begun b w f ok) e = never (sym e ∙ ap (λ (s : Image). s.slots i) (image_start b w f ok))
    go (h then q with mem) e =
        image_cases h mem q (λ (s : Image). s.slots i ≡ t → Origin i t (h then q with mem))
        (λ ok p. by (go h) (subst (λ (u : Slot). Fate h mem i u q) p (fate h mem i q ok)))
        (λ n r p. later q (go h p) (λ a c. refused_covers (who_of t.tag) a h mem q n r)) e
      where
        by : {q : Request} → ((image h).slots i ≡ t → Origin i t h) → Fate h mem i t q → Origin i t (h then q with mem)
        by ih (gone z) = never z
        by {q} ih (kept z un) = later q (ih (sym z)) (un held)
        by ih (fills {k} {a} {ac} f) = moment k a ac f.ok f

-- a weaker condition on the moment, and on the calls after it
pub since_map : {Q Q' : History → Memory → Request → Type 0} {P P' : History → Memory → ℕ → ℕ → ℕ → Type 0}
    → ((h : History) (mem : Memory) (q : Request) → Q h mem q → Q' h mem q)
    → ((h : History) (mem : Memory) (k a ac : ℕ) → P h mem k a ac → P' h mem k a ac) → {h : History} → Since Q P h → Since Q' P' h
since_map f g (moment {h = h} {mem = mem} k a ac ok p) = moment k a ac ok (g h mem k a ac p)
since_map f g (later {h = h} {mem = mem} q r u) = later q (since_map f g r) (f h mem q u)

-- ---- what a filled slot says
module _ {i : ℕ} {t : Slot} {h : History} {m : Memory} {k b ac : ℕ} (f : Filled i t h m k b ac) where
  abbrev p : Leaf
  p = f.leaf

  fit : Fit (bytes h)
  fit = (given (bytes h) m (translate k b ac) f.ok).0

  found : IsLeaf (entry_at m) (control (image h)) f.leaf
  found = is_leaf m (control (image h)) b f.leaf f.end

  size : Is (size_at f.leaf.level)
  size = size_at_lem f.leaf.level found.low found.high

  size_is : size_of i ≡ size_at f.leaf.level
  size_is = slot_size (size_at p.level) b i size f.in_set

  level_is : (size_at f.leaf.level).level ≡ f.leaf.level
  level_is = level_at f.leaf.level found.low found.high

  -- ---- the tag
  slot_page : page_in t.tag ≡ page_number (size_at f.leaf.level) b
  slot_page = rw f.slot (tag_page (pge (image h).flags && p.global) (pcid (image h)) _ (pcid_lt (image h)) (page_lt (size_at p.level) b size))

  holds_page_lem : contains b i t.tag ≡ true
  holds_page_lem =
      rw (eq-eqb (i / 4) (set_of (size_of i) b) (f.in_set ∙ ap (λ (z : Size). set_of z b) (sym size_is)))
      (eq-eqb _ _ (slot_page ∙ ap (λ (z : Size). page_number z b) (sym size_is)))

  pub slot_pcid : pcid_in t.tag ≡ pcid (image h)
  slot_pcid = rw f.slot (tag_pcid (pge (image h).flags && p.global) (pcid (image h)) _ (pcid_lt (image h)))

  pub slot_global : is_global t.tag ≡ (pge (image h).flags && f.leaf.global)
  slot_global = rw f.slot (tag_global (pge (image h).flags && p.global) (pcid (image h)) _)

  -- ---- the data
  slot_rights : rights_in t.datum ≡ f.leaf.rights
  slot_rights = rw f.slot (rights_back p.rights ((access_of k ac).write || p.dirty) p.base (leaf_base (entry_at m) (control (image h)) p found))

  slot_dirty : is_dirty t.datum ≡ ((access_of k ac).write || f.leaf.dirty)
  slot_dirty = rw f.slot (dirty_back p.rights ((access_of k ac).write || p.dirty) p.base (leaf_base (entry_at m) (control (image h)) p found))

  slot_base : part 52 (shift (size_of i).level) t.datum ≡ f.leaf.base
  slot_base =
      rw (size_is, level_is, f.slot, found.base)
      (base_back p.level (image h).width (entry_at m p.at) fit.narrow p.rights ((access_of k ac).write || p.dirty) found.low)

  -- an access that the slot serves may use the page
  pub may_use : (c : Control) (q : Access) → serves c q t.datum ≡ true → allows c q f.leaf.rights ≡ true
  may_use c q ok = rw (← slot_rights) (and_left (allows c q (rights_in t.datum)) _ ok)

  -- and, if it writes, the page was dirty by then
  pub was_dirty : (c : Control) (q : Access) → serves c q t.datum ≡ true → q.write ≡ true → ((access_of k ac).write || f.leaf.dirty) ≡ true
  was_dirty c q ok e = sym slot_dirty ∙ rw e at (and_right (allows c q (rights_in t.datum)) (not q.write || is_dirty t.datum) ok)

  -- ---- for an address that the slot holds
  module _ (a : ℕ) (has : contains a i t.tag ≡ true) where
    pub same_page : page_number (size_at f.leaf.level) a ≡ page_number (size_at f.leaf.level) b
    same_page =
        ap (λ (z : Size). page_number z a) (sym size_is)
        ∙ sym (eqb-true _ _ (and_right (eqb (i / 4) (set_of (size_of i) a)) (eqb (page_in t.tag) (page_number (size_of i) a)) has)) ∙ slot_page

    -- a walk of it, in memory that has grown since, ends alike
    pub again : (c : Control) (mem : Memory) → Agree (control (image h)) c → root (image h) ≡ c.root → Grown m mem
        → Alike (λ r s. r ≡ s) (reach_in m (control (image h)) b) (reach_in mem c a)
    again c mem same roots =
        walk_again (control (image h)) c b a m mem (omega (arith, fit.wide)) (root_eight (image h)) same roots
        (subst (λ (l : ℕ). SameIndex l 4 b a) (level_is ∙ sym (ap end_level f.end)) (same_index (size_at p.level) b a size (sym same_page)))

    -- a slot's answer is that of a walk that ends alike, if the access may use the page there
    pub hit_is : (Q : Rights → Rights → Type 0) (c : Control) (q : Access) (e : End) (n : ℕ) → EndAlike Q (reach_in m (control (image h)) b).end e
        → ((r : Rights) → Q f.leaf.rights r → allows c q r ≡ true)
        → but_count (answer_of c q a (judged c q e n)) ≡ Address (hit_address (size_of i) t.datum a) (size_of i).length 0
    hit_is Q c q e n l g = go e (subst (λ (x : End). EndAlike Q x e) f.end l)
      where
        go : (e : End) → EndAlike Q (reached p) e
            → but_count (answer_of c q a (judged c q e n)) ≡ Address (hit_address (size_of i) t.datum a) (size_of i).length 0
        go (stuck cause level) l = absurd l
        go (reached d) l =
            let z : size_at d.level ≡ size_of i = ap size_at (sym l.level) ∙ sym size_is in
            let base : d.base ≡ part 52 (shift (size_of i).level) t.datum = sym l.base ∙ sym slot_base in
            ap (λ (x : Bool). but_count (answer_of c q a (page_if x q d n))) (g d.rights l.rights)
            ∙ (λ j. Address (base j + a % (z j).length) (z j).length 0)

-- ---- so every held slot stands where an address finds it
pub placed : Placed
placed h i held = go (origin h i ((image h).slots i) refl held)
  where
    go : {h₀ : History} → Origin i ((image h).slots i) h₀ → IsPlaced i ((image h).slots i)
    go (moment k a ac ok f) = record { held = held; address = a; has = holds_page_lem f }
    go (later q r u) = go r
