-- What one accepted call does to one slot. Its fate is one of three: it is gone; or it is kept, and then the call covers no address that the slot holds, for
-- the slot's own `who`, by `Drops`; or a walk filled it.
use Prim.Native.Nat.{ℕ, ◌/◌}
use mathlib.Core.Path.{◌≡◌, refl, ap, sym, ◌∙◌}
use mathlib.Core.Logic.{◌⊎◌, inl, inr}
use mathlib.Core.Bool.{true, false, true≢false}
use Rattle.rules.specs.Sizes.{size_at, set_of}
use Rattle.rules.specs.Image.{Slot, none, control, pg, is_held}
use Rattle.rules.specs.Memory.{Memory}
use Rattle.rules.specs.Entries.{allows}
use Rattle.rules.specs.Walk.{Leaf, reached, reach_in, walk}
use Rattle.rules.specs.Buffer.{contains, Hit, hit, miss, find}
use Rattle.rules.specs.Refusals.{Request, start_with, translate, invlpg, invpcid, write_cr3, write_mode}
use Rattle.rules.specs.Calls.{After, access_of, accepted}
use Rattle.rules.proofs.BoolLaws.{refuted}
use Rattle.rules.proofs.CallWays.{Way, unpaged, answered, walks, way, page_slot, walked_slot}
use Rattle.sequences.specs.History.{History, image, Accepted}
use Rattle.sequences.specs.Covers.{covers, covered}
use Rattle.sequences.specs.Spans.{slot_answers, is_translate}
use Rattle.sequences.specs.Drops.{who_of}
use Rattle.sequences.proofs.Drops.{gone_or_kept, ties}

abbrev pub slot_at : History → ℕ → Slot
slot_at h i = (image h).slots i

abbrev pub tag_at : History → ℕ → ℕ
tag_at h i = (slot_at h i).tag

-- a call covers no address that slot i holds while its tag is t
abbrev pub UncoveredSlot : ℕ → ℕ → History → Memory → Request → Type 0
UncoveredSlot i t h mem q = (a : ℕ) → contains a i t ≡ true → covered (who_of t) a h mem q ≡ false

-- the walk of an accepted translate of b left t in slot i
pub record Filled (i : ℕ) (t : Slot) (h : History) (mem : Memory) (k b ac : ℕ) : Type 0 where
  pub ok : Accepted h mem (translate k b ac)
  pub paging : pg (image h).flags ≡ true
  pub unanswered : slot_answers (image h) (access_of k ac) (find (image h) b) ≡ false
  pub memory : (accepted (image h) mem (translate k b ac)).memory ≡ (walk (control (image h)) (access_of k ac) b mem).memory
  pub leaf : Leaf
  pub end : (reach_in mem (control (image h)) b).end ≡ reached leaf
  pub allowed : allows (control (image h)) (access_of k ac) leaf.rights ≡ true
  pub in_set : i / 4 ≡ set_of (size_at leaf.level) b
  pub slot : t ≡ page_slot (image h) (access_of k ac) b leaf

pub data Fate (h : History) (mem : Memory) (i : ℕ) (t : Slot) : Request → Type 0 where
  gone : {q : Request} → t ≡ none → Fate h mem i t q
  kept : {q : Request} → t ≡ slot_at h i → (is_held t.tag ≡ true → UncoveredSlot i t.tag h mem q) → Fate h mem i t q
  fills : {k a ac : ℕ} → Filled i t h mem k a ac → Fate h mem i t (translate k a ac)

module _ (h : History) (mem : Memory) (i : ℕ) where
  -- a slot that an operation covers is gone, so one that is kept is covered by none
  by_drop : (q : Request) → is_translate q ≡ false → Fate h mem i ((accepted (image h) mem q).image.slots i) q
  by_drop q l = go (gone_or_kept (image h) mem q l i)
    where
      unless : (accepted (image h) mem q).image.slots i ≡ slot_at h i → is_held (tag_at h i) ≡ true → UncoveredSlot i (tag_at h i) h mem q
      unless e held a has =
          rw (refuted (covers (who_of (tag_at h i)) a (image h) q) (λ f.
          true≢false
          (sym held
          ∙ ap (λ (t : Slot). is_held t.tag) (sym e ∙ (ties (image h) mem q l i (record { held = held; address = a; has = has })).goes a has f))))

      go : ((accepted (image h) mem q).image.slots i ≡ none) ⊎ ((accepted (image h) mem q).image.slots i ≡ slot_at h i)
          → Fate h mem i ((accepted (image h) mem q).image.slots i) q
      go (inl e) = gone e
      go (inr e) = rw e (kept {q = q} refl (unless e))

  by_way : (k a ac : ℕ) → Accepted h mem (translate k a ac) → {o : After} → Way (image h) mem (access_of k ac) a o → accepted (image h) mem (translate k a ac) ≡ o
      → Fate h mem i (o.image.slots i) (translate k a ac)
  by_way k a ac ok (unpaged off) e = kept refl (λ held b has. refl)
  by_way k a ac ok (answered on j f g) e = kept refl (λ held b has. refl)
  by_way k a ac ok (walks on un) e =
      walked_slot (image h) mem (access_of k ac) a i (λ (t : Slot). Fate h mem i t (translate k a ac)) (gone refl) (kept refl (λ held b has. refl))
      (λ p v w.
      fills (record {
        ok = ok;
        paging = on;
        unanswered = unanswered (find (image h) a) refl;
        memory = ap (λ (o : After). o.memory) e;
        leaf = p;
        end = w.end;
        allowed = w.allowed;
        in_set = w.in_set;
        slot = refl;
      }))
    where
      unanswered : (f : Hit) → find (image h) a ≡ f → slot_answers (image h) (access_of k ac) f ≡ false
      unanswered (hit j) f = un j f
      unanswered miss f = refl

  pub fate : (q : Request) → Accepted h mem q → Fate h mem i ((accepted (image h) mem q).image.slots i) q
  fate (start_with w f) ok = gone refl
  fate (translate k a ac) ok = by_way k a ac ok (way (image h) mem (access_of k ac) a) refl
  fate (invlpg a) ok = by_drop (invlpg a) refl
  fate (invpcid t p a) ok = by_drop (invpcid t p a) refl
  fate (write_cr3 v) ok = by_drop (write_cr3 v) refl
  fate (write_mode v) ok = by_drop (write_mode v) refl
