-- Under the root condition a slot that answers gives what the walk of now would give, and that walk would write nothing: the walk of now reads the same
-- entries as the walk of the slot's origin, each as it was but for bits 5 and 6, to which the walk is blind, and those that it would set are set.
use Prim.Native.Nat.{ℕ}
use mathlib.Core.Path.{◌≡◌, refl, ap, sym, ◌∙◌, subst}
use mathlib.Core.Logic.{◌⊎◌, inl, inr}
use mathlib.Core.Bool.{Bool, true, false, cond, ◌&&◌, ◌||◌, true≢false}
use native.Mathlib.Omega.{arith}
use borrow.Author.Tests.{eq-eqb}
use Rattle.rules.specs.Image.{Slot, Image, control, root, pcid, is_global, pcid_in}
use Rattle.rules.specs.Memory.{Memory, entry_at}
use Rattle.rules.specs.Entries.{allows, everything}
use Rattle.rules.specs.Walk.{End, reach_in, page_if, judged}
use Rattle.rules.specs.Buffer.{contains}
use Rattle.rules.specs.Refusals.{translate, refusal}
use Rattle.rules.specs.Calls.{After, access_of, served, Outcome, encoded, call}
use Rattle.rules.specs.declared.Rights.{Rights}
use Rattle.rules.proofs.Alike.{Alike}
use Rattle.rules.proofs.Grown.{root_eight, eights, Grown, grown_on, call_grows}
use Rattle.rules.proofs.Marks.{Marked, marked_grown, marked_alike, walk_marks, marked_same}
use Rattle.rules.proofs.CallLaws.{call_accepted}
use Rattle.rules.proofs.RefusalLaws.{given}
use Rattle.rules.proofs.CallWays.{Way, unpaged, answered, walks, way}
use Rattle.sequences.specs.History.{History, bytes, image, Accepted, is_accepted}
use Rattle.sequences.specs.Covers.{Who, global, others, covered}
use Rattle.sequences.specs.Spans.{moment, later, Throughout, OnlyTranslator, global_page, fills_global, NoGlobalFill, SameRoot, SameRootOfPcid, RootA, RootB}
use Rattle.sequences.specs.Claims.{but_count, IsPlain, IsPlainButCount, Equality, EqualityWorded}
use Rattle.sequences.specs.Drops.{who_of}
use Rattle.sequences.proofs.Fates.{slot_at, tag_at, Filled}
use Rattle.sequences.proofs.Origins.{Origin, slot_pcid, slot_global, may_use, was_dirty, same_page, again, hit_is}
use Rattle.sequences.proofs.Answers.{plainly, Answering, has, whence, owned}
use Rattle.sequences.proofs.Spans.{Kept, Traced, from, goes_on_lem, traced, worded_a, worded_b}

-- slot i answers as the walk of now would
abbrev Same : History → Memory → ℕ → ℕ → ℕ → ℕ → Type 0
Same h mem k a ac i = IsPlainButCount (image h) mem k a ac (encoded (served (image h) mem a i))

-- an outcome that is the walk's is so but for the count
but : {s : Image} {mem : Memory} {k a ac : ℕ} {o : Outcome} → IsPlain s mem k a ac o → IsPlainButCount s mem k a ac o
but p = record { answer = ap but_count p.answer; memory = p.memory }

-- ---- a slot that answers, if the walk of now ends like the walk of its origin, with rights that still grant what they granted, and what it would mark is
-- marked. Which changes of memory leave this so is the caller's
module _ {h : History} {k a ac i : ℕ} (w : Answering h k a ac i) (mem : Memory) (ok : Accepted h mem (translate k a ac)) where
  module _ {h₀ : History} {m : Memory} {k₀ b ac₀ : ℕ} (f : Filled i (slot_at h i) h₀ m k₀ b ac₀) where
    pub slot_plain : (Q : Rights → Rights → Type 0) → Alike Q (reach_in m (control (image h₀)) b) (reach_in mem (control (image h)) a)
        → ((r s : Rights) → Q r s → allows (control (image h)) (access_of k ac) r ≡ true → allows (control (image h)) (access_of k ac) s ≡ true)
        → Marked (access_of k ac).write (reach_in m (control (image h₀)) b) mem → Same h mem k a ac i
    slot_plain Q alike grants marked =
        let p : IsPlain (image h) mem k a ac _ = plainly (image h) mem k a ac (bytes h) true w.on in
        record {
          answer =
              sym
              (hit_is f a (has w) Q (control (image h)) (access_of k ac) (reach_in mem (control (image h)) a).end _ alike.end
              (λ r q. grants f.leaf.rights r q (may_use f (control (image h)) (access_of k ac) w.serve)))
              ∙ ap but_count p.answer;
          memory =
              sym
              (marked_same mem (omega (arith, (given (bytes h) mem (translate k a ac) ok).2)) (control (image h)) (access_of k ac) (reach_in mem (control (image h)) a)
              (eights (entry_at mem) (control (image h)) a 4 (root (image h)) everything (root_eight (image h)))
              (marked_alike Q (access_of k ac).write _ (reach_in mem (control (image h)) a) mem alike marked))
              ∙ p.memory;
        }

    -- ---- memory that has grown since the origin leaves this so: a slot serves a write only if it is dirty
    grown_plain : SameRoot h h₀ → Kept (image h₀) (image h) → Grown (call (bytes h₀) m (translate k₀ b ac₀)).memory mem
        → Same h mem k a ac i
    grown_plain roots same grown =
        slot_plain (λ r s. r ≡ s)
        (again f a (has w) (control (image h)) mem same roots (grown_on m _ mem (call_grows (bytes h₀) m (translate k₀ b ac₀)) grown)) (λ r s q g. rw (← q) g)
        (marked_grown ((access_of k₀ ac₀).write || f.leaf.dirty) (access_of k ac).write _ _ mem (was_dirty f (control (image h)) (access_of k ac) w.serve)
        (eights (entry_at m) (control (image h₀)) b 4 (root (image h₀)) everything (root_eight (image h₀)))
        (subst (λ (x : Memory). Grown x mem) (ap (λ (o : Outcome). o.memory) (call_accepted (bytes h₀) m (translate k₀ b ac₀) f.ok) ∙ f.memory) grown)
        (walk_marks (control (image h₀)) (access_of k₀ ac₀) b m f.leaf (root_eight (image h₀)) f.end f.allowed))

-- ---- where no walk filled a global page since the last operation that covers such, no global slot has an origin
module _ {i : ℕ} {t : Slot} (a : ℕ) (has : contains a i t.tag ≡ true) (all : is_global t.tag ≡ true) where
  fills_global_lem : {h : History} {mem : Memory} {k b ac : ℕ} → Filled i t h mem k b ac → fills_global a (image h) mem (translate k b ac) ≡ true
  fills_global_lem {h} {mem} {k} {b} {ac} f =
      rw (f.paging, f.unanswered)
      (ap (λ (x : End). global_page (image h) b a (judged (control (image h)) (access_of k ac) x (reach_in mem (control (image h)) b).read)) f.end
      ∙ ap (λ (x : Bool). global_page (image h) b a (page_if x (access_of k ac) f.leaf (reach_in mem (control (image h)) b).read)) f.allowed
      ∙ rw (sym (slot_global f) ∙ all) (eq-eqb _ _ (same_page f a has)))

  none_filled : {h : History} → Origin i t h → who_of t.tag ≡ global → Throughout (covered global a) (NoGlobalFill a) h → ⊥
  none_filled (moment {h = h} {mem = mem} k b ac ok f) own s =
      true≢false (sym (ap (λ (x : Bool). x && is_accepted h mem (translate k b ac)) (fills_global_lem f) ∙ eq-eqb (refusal (bytes h) mem (translate k b ac)) 0 ok) ∙ s.0)
  none_filled (later {h = h} {mem = mem} q r u) own s =
      none_filled r own
      (goes_on_lem (covered global a h mem q) (Throughout (covered global a) (NoGlobalFill a) h) (subst (λ (x : Who). covered x a h mem q ≡ false) own (u a has)) s.1)

-- ---- so every outcome is the walk's, if each slot that answers has such an origin in its own span
module _ (h : History) (mem : Memory) (k a ac : ℕ) (ok : Accepted h mem (translate k a ac)) where
  same_way : ((i : ℕ) → Answering h k a ac i → Same h mem k a ac i) → {o : After} → Way (image h) mem (access_of k ac) a o → IsPlainButCount (image h) mem k a ac (encoded o)
  same_way slots (unpaged off) = but (plainly (image h) mem k a ac _ false off)
  same_way slots (answered on i e g) = slots i (record { on = on; found = e; serve = g })
  same_way slots (walks on un) = but (plainly (image h) mem k a ac _ true on)

  module _ (i : ℕ) (w : Answering h k a ac i) where
    by_span : (R : History → Type 0) (who : Who) → who_of (tag_at h i) ≡ who → Throughout (covered who a) R h → OnlyTranslator (covered who a) h mem
        → ((h₀ : History) → pcid_in (tag_at h i) ≡ pcid (image h₀) → R h₀ → SameRoot h h₀) → Same h mem k a ac i
    by_span R who own t o roots = go (traced R who a (λ h₀ m q u. subst (λ (x : Who). covered x a h₀ m q ≡ false) own (u a (has w))) mem (whence w) t o)
      where
        go : Traced (Filled i (slot_at h i)) R h mem → Same h mem k a ac i
        go (from {h₀} f r same grown) = grown_plain w mem ok f (roots h₀ (slot_pcid f) r) same grown

    -- ---- (a): the slot's own span has one root. (b): no slot that answers is global, and the slot's origin ran under the PCID of now
    under : RootA h mem a ⊎ RootB h mem a → (g : Bool) → is_global (tag_at h i) ≡ g
        → who_of (tag_at h i) ≡ cond g global (others (pcid (image h))) → Same h mem k a ac i
    under (inl c) true e own = by_span (SameRoot h) global own c.root_global c.memory_global (λ h₀ q r. r)
    under (inl c) false e own = by_span (SameRoot h) (others (pcid (image h))) own c.root_others c.memory_others (λ h₀ q r. r)
    under (inr c) true e own = absurd (none_filled a (has w) e (whence w) own c.no_global)
    under (inr c) false e own =
        let p : pcid_in (tag_at h i) ≡ pcid (image h) = cc (rw e at own) in
        by_span (SameRootOfPcid h) (others (pcid (image h))) own c.root_others c.memory_others (λ h₀ q r. r (sym q ∙ p))

pub equality : Equality
equality h mem k a ac ok c =
    subst (IsPlainButCount (image h) mem k a ac) (sym (call_accepted (bytes h) mem (translate k a ac) ok))
    (same_way h mem k a ac ok (λ i w. under h mem k a ac ok i w c (is_global (tag_at h i)) refl (owned w).0) (way (image h) mem (access_of k ac) a))

pub equality_worded : EqualityWorded
equality_worded h mem k a ac ok (inl c) = equality h mem k a ac ok (inl (worded_a h mem a c))
equality_worded h mem k a ac ok (inr c) = equality h mem k a ac ok (inr (worded_b h mem a c))
