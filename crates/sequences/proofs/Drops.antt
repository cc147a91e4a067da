-- Each operation drops exactly what the list of `Covers` names. The rules drop by a test on slot number and tag, and the list goes by what a slot holds; for a
-- slot that is held and that some address's own set and page name, the two tests agree, since a page has one set. What covers an address of a slot's page
-- names the slot; and what is named is covered, at the operation's own address where it has one.
use Prim.Native.Nat.{ℕ, zero, suc, ◌+◌, ◌/◌, ◌%◌, ◌^◌}
use mathlib.Core.Path.{◌≡◌, refl, ap, sym, ◌∙◌, subst}
use mathlib.Core.Logic.{◌⊎◌, inl, inr}
use mathlib.Core.Bool.{Bool, true, false, cond, ◌&&◌, ◌||◌, not, true≢false, and-false, and-true, and_assoc}
use native.Mathlib.Omega.{arith}
use lib.Dec.{eqb}
use borrow.Author.Tests.{eqb-true, eq-eqb}
use Rattle.rules.specs.Bits.{is_on}
use Rattle.rules.specs.Sizes.{Is, is_small, is_middle, is_large, small, middle, large, size_of, set_of, page_number}
use Rattle.rules.specs.Image.{Slot, Image, none, decode, control, pg, pge, pcide, nxe, pcid, is_held, is_global, pcid_in, page_in}
use Rattle.rules.specs.Memory.{Memory}
use Rattle.rules.specs.Buffer.{contains, matches, of_pcid}
use Rattle.rules.specs.Refusals.{Request, start_with, translate, invlpg, invpcid, write_cr3, write_mode, canonical}
use Rattle.rules.specs.Calls.{is_same, same_mode, with_cr3, invpcid_drops, accepted}
use Rattle.rules.specs.declared.Size.{Size}
use Rattle.rules.proofs.BoolLaws.{and_left, and_right, same}
use Rattle.rules.proofs.SizeLaws.{size_of_lem}
use Rattle.rules.proofs.SoundLaws.{call_says}
use Rattle.sequences.specs.Covers.{Who, global, others, are_global, are_of, has_address, pcid_after, differ, changes, names, held_at, covers}
use Rattle.sequences.specs.Spans.{is_translate}
use Rattle.sequences.specs.Drops.{who_of, held_in, IsPlaced, victims_after, Exactly, Drops, Ties, Covering}

-- ---- the rules' tests and the list's
pcid_after_lem : (s : Image) (v : ℕ) → pcid (with_cr3 (v % 2 ^ 63) s) ≡ pcid_after s v
pcid_after_lem s v = ap (λ (x : ℕ). cond (pcide s.flags) x 0) (low v)
  where
    low : (v : ℕ) → v % 2 ^ 63 / 2 ^ 0 % 2 ^ 12 ≡ v / 2 ^ 0 % 2 ^ 12
    low v = omega arith

changes_is : (v f : ℕ) → not (same_mode v f) ≡ changes v f
changes_is v f =
    same 8 (λ a b c d e g i j. not (is_same a b && is_same c d && is_same e g && is_same i j)) (λ a b c d e g i j. differ a b || differ c d || differ e g || differ i j)
    refl (pg v) (pg f) (pge v) (pge f) (pcide v) (pcide f) (nxe v) (nxe f)

-- a `who` is asked what the slot's tag is asked
asked : (g : Bool) (n p : ℕ) → let w : Who = cond g global (others n) in
    (are_global w ≡ g) × (are_of p w ≡ (eqb n p && not g)) × ((are_global w || are_of p w) ≡ (g || eqb n p))
asked true n p = (refl, sym (and-false (eqb n p)), refl)
asked false n p = (refl, sym (and-true (eqb n p)), refl)

own : (t p : ℕ) → of_pcid p t ≡ are_of p (who_of t)
own t p = sym (asked (is_global t) (pcid_in t) p).1

-- a slot that holds one address's page holds that of every address of the page: a page has one set
has_page : (b i t : ℕ) → contains b i t ≡ true → page_in t ≡ page_number (size_of i) b
has_page b i t h = eqb-true _ _ (and_right (eqb (i / 4) (set_of (size_of i) b)) _ h)

contains_is : (b a i t : ℕ) → contains b i t ≡ true → contains a i t ≡ has_address (held_in i t) a
contains_is b a i t h = go (eqb (page_in t) (page_number (size_of i) a)) refl
  where
    set : i / 4 ≡ set_of (size_of i) b
    set = eqb-true _ _ (and_left _ (eqb (page_in t) (page_number (size_of i) b)) h)

    go : (x : Bool) → eqb (page_in t) (page_number (size_of i) a) ≡ x → (eqb (i / 4) (set_of (size_of i) a) && x) ≡ x
    go false e = and-false (eqb (i / 4) (set_of (size_of i) a))
    go true e =
        let page : page_number (size_of i) b ≡ page_number (size_of i) a = sym (has_page b i t h) ∙ eqb-true _ _ e in
        rw (eq-eqb (i / 4) (set_of (size_of i) a) (set ∙ ap (λ (n : ℕ). (size_of i).first + n % (size_of i).sets) page))

-- the rules' test of an accepted call, by slot number and tag
abbrev test : Image → Request → ℕ → ℕ → Bool
test s (start_with w f) i t = true
test s (translate k a ac) i t = false
test s (invlpg a) i t = canonical (control s) a && matches (pcid s) a i t
test s (invpcid n p a) i t = invpcid_drops n p a i t
test s (write_cr3 v) i t = not (is_on 63 v) && of_pcid (pcid (with_cr3 (v % 2 ^ 63) s)) t
test s (write_mode v) i t = not (same_mode v s.flags)

agree : (s : Image) (i t b : ℕ) → is_held t ≡ true → contains b i t ≡ true → (q : Request) → test s q i t ≡ names s q (held_in i t)
agree s i t b held has (start_with w f) = refl
agree s i t b held has (translate k a ac) = refl
agree s i t b held has (invlpg a) = rw (held, contains_is b a i t has, (asked (is_global t) (pcid_in t) (pcid s)).2) (sym (and_assoc (canonical (control s) a) _ _))
agree s i t b held has (invpcid zero p a) = rw (contains_is b a i t has, own t p)
agree s i t b held has (invpcid (suc zero) p a) = own t p
agree s i t b held has (invpcid (suc (suc zero)) p a) = refl
agree s i t b held has (invpcid (suc (suc (suc n))) p a) = ap not (sym (asked (is_global t) (pcid_in t) p).0)
agree s i t b held has (write_cr3 v) = rw (pcid_after_lem s v, own t (pcid_after s v))
agree s i t b held has (write_mode v) = changes_is v s.flags

-- ---- drops: an accepted call other than translate leaves nothing in the slots that it names, and the others as they were
module _ (s : Image) (mem : Memory) where
  by_test : (q : Request) → is_translate q ≡ false → (i : ℕ) → (accepted s mem q).image.slots i ≡ cond (test s q i (s.slots i).tag) none (s.slots i)
  by_test (start_with w f) l i = refl
  by_test (translate k a ac) l i = absurd (true≢false l)
  by_test (invlpg a) l i = refl
  by_test (invpcid n p a) l i = refl
  by_test (write_cr3 v) l i = refl
  by_test (write_mode v) l i = refl

  slot_left : (q : Request) → is_translate q ≡ false → (i : ℕ) → IsPlaced i (s.slots i)
      → (accepted s mem q).image.slots i ≡ cond (names s q (held_in i (s.slots i).tag)) none (s.slots i)
  slot_left q l i placed =
      by_test q l i ∙ ap (λ (x : Bool). cond x none (s.slots i)) (agree s i (s.slots i).tag placed.address placed.held placed.has q)

  pub gone_or_kept : (q : Request) → is_translate q ≡ false → (i : ℕ)
      → ((accepted s mem q).image.slots i ≡ none) ⊎ ((accepted s mem q).image.slots i ≡ s.slots i)
  gone_or_kept q l i = go (test s q i (s.slots i).tag) (by_test q l i)
    where
      go : (x : Bool) → (accepted s mem q).image.slots i ≡ cond x none (s.slots i)
          → ((accepted s mem q).image.slots i ≡ none) ⊎ ((accepted s mem q).image.slots i ≡ s.slots i)
      go true e = inl e
      go false e = inr e

  victims_left : (q : Request) → is_translate q ≡ false → (accepted s mem q).image.victims ≡ victims_after s q
  victims_left (start_with w f) l = refl
  victims_left (translate k a ac) l = absurd (true≢false l)
  victims_left (invlpg a) l = refl
  victims_left (invpcid t p a) l = refl
  victims_left (write_cr3 v) l = refl
  victims_left (write_mode v) l = refl

pub drops : Drops
drops b mem q bytes l ok =
    subst (Exactly (decode b) q) (sym (call_says b mem bytes q ok))
    (record { slots = slot_left (decode b) mem q l; gone_or_kept = gone_or_kept (decode b) mem q l; victims = victims_left (decode b) mem q l })

-- ---- what covers an address names the page of each size that contains it, and so a slot that holds it
covers_size : (who : Who) (a : ℕ) (s : Image) (q : Request) (z : Size) → Is z → covers who a s q ≡ true → names s q (held_at who a z) ≡ true
covers_size who a s q z size h = go size (names s q (held_at who a small)) (names s q (held_at who a middle)) (names s q (held_at who a large)) refl refl refl h
  where
    go : {z : Size} → Is z → (x y w : Bool) → names s q (held_at who a small) ≡ x → names s q (held_at who a middle) ≡ y → names s q (held_at who a large) ≡ w
        → (x && y && w) ≡ true → names s q (held_at who a z) ≡ true
    go is_small x y w ex ey ew h = ex ∙ and_left x y (and_left (x && y) w h)
    go is_middle x y w ex ey ew h = ey ∙ and_right x y (and_left (x && y) w h)
    go is_large x y w ex ey ew h = ew ∙ and_right (x && y) w h

module _ (s : Image) (i t : ℕ) where
  covers_names : (q : Request) (a : ℕ) → contains a i t ≡ true → covers (who_of t) a s q ≡ true → names s q (held_in i t) ≡ true
  covers_names q a has h =
      subst (λ (n : ℕ). names s q (record { size = size_of i; page = n; who = who_of t }) ≡ true) (sym (has_page a i t has))
      (covers_size (who_of t) a s q (size_of i) (size_of_lem i) h)

  -- ---- what is named is covered, at the operation's own address where it has one
  abbrev Somewhere : Request → Type 0
  Somewhere q = (a : ℕ) × (contains a i t ≡ true) × (covers (who_of t) a s q ≡ true)

  names_covers : (b : ℕ) → contains b i t ≡ true → (q : Request) → names s q (held_in i t) ≡ true → Somewhere q
  names_covers b has (start_with w f) h = (b, has, refl)
  names_covers b has (translate k a ac) h = absurd (true≢false (sym h))
  names_covers b has (invlpg a) h =
      let x : (canonical (control s) a && has_address (held_in i t) a) ≡ true = and_left _ _ h in (
        a,
        contains_is b a i t has ∙ and_right (canonical (control s) a) _ x,
        rw (
          and_left (canonical (control s) a) _ x,
          eq-eqb (page_number small a) _ refl,
          eq-eqb (page_number middle a) _ refl,
          eq-eqb (page_number large a) _ refl,
          and_right (canonical (control s) a && has_address (held_in i t) a) _ h,
        ),
      )
  names_covers b has (invpcid zero p a) h = (
    a,
    contains_is b a i t has ∙ and_left _ (are_of p (who_of t)) h,
    rw (
      eq-eqb (page_number small a) _ refl,
      eq-eqb (page_number middle a) _ refl,
      eq-eqb (page_number large a) _ refl,
      and_right (has_address (held_in i t) a) _ h,
    ),
  )
  names_covers b has (invpcid (suc zero) p a) h = (b, has, rw h)
  names_covers b has (invpcid (suc (suc zero)) p a) h = (b, has, refl)
  names_covers b has (invpcid (suc (suc (suc n))) p a) h = (b, has, rw h)
  names_covers b has (write_cr3 v) h = (b, has, rw h)
  names_covers b has (write_mode v) h = (b, has, rw h)

module _ (s : Image) (mem : Memory) (q : Request) (l : is_translate q ≡ false) (i : ℕ) (placed : IsPlaced i (s.slots i)) where
  pub ties : Ties s q i (s.slots i) ((accepted s mem q).image.slots i)
  ties =
      record {
        goes = λ a has h. slot_left s mem q l i placed ∙ rw (covers_names s i (s.slots i).tag q a has h);
        was = λ e. names_covers s i (s.slots i).tag placed.address placed.has q (go (names s q (held_in i (s.slots i).tag)) refl e);
      }
    where
      go : (x : Bool) → names s q (held_in i (s.slots i).tag) ≡ x → (accepted s mem q).image.slots i ≡ none → names s q (held_in i (s.slots i).tag) ≡ true
      go true e z = e
      go false e z =
          let stays : s.slots i ≡ none = sym (slot_left s mem q l i placed ∙ rw e) ∙ z in
          absurd (true≢false (sym placed.held ∙ ap (λ (t : Slot). is_held t.tag) stays))

pub covering : Covering
covering b mem q bytes l ok i placed =
    subst (λ (s : Image). Ties (decode b) q i ((decode b).slots i) (s.slots i)) (sym (call_says b mem bytes q ok)) (ties (decode b) mem q l i placed)
