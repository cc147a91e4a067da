-- The ways through the checks: what each return has to show, from the tests on its way. The image's words are read where its parts stand.
use Prim.Native.Nat.{ℕ, ◌/◌, ◌%◌, ◌^◌, ◌≤◌}
use mathlib.Core.Path.{◌≡◌, refl, ap, sym, ◌∙◌}
use mathlib.Core.Bool.{Bool, true, false, true≢false, cond, ◌&&◌, ◌||◌, not, or-true, or-false}
use mathlib.Core.List.{List}
use native.Mathlib.Omega.{arith}
use lib.ListN.{length, take, drop, length-drop}
use lib.Seq.{take_all}
use lib.Dec.{eqb, leb, ltb}
use borrow.Author.Tests.{eq-eqb, ne_eqb, le-ltb}
use Rattle.rules.specs.Bits.{words_of, is_on, part, word_at}
use Rattle.rules.specs.Image.{Image, decode, control, pg, pcide}
use Rattle.rules.specs.Memory.{Memory}
use Rattle.rules.specs.Refusals.{translate, canonical, is_long, is_outside, all_zero, no_flags, is_unfit, no_address, no_cr3, no_mode, no_invpcid, refusal}
use Rattle.rules.specs.declared.Control.{Control}
use Rattle.rules.proofs.BoolLaws.{or_left, or_right}
use Rattle.rules.proofs.WordLaws.{zero_tail}
use Rattle.rules.proofs.PlaceLaws.{width_at, flags_at, cr3_at, victims_at}
use Rattle.rules.proofs.RefusalLaws.{Fit, fit}
use Rattle.refusals.specs.Asked.{Asked}
use Rattle.refusals.specs.Refusal.{number_of, told}
use Rattle.std.specs.Prelude.{Result, Ok, Err, IsErrAnd, ⊤}
use Rattle.refusals.specs.declared.asked.Asked.{Asked as AskedOf}
use Rattle.refusals.specs.declared.refusal.Refusal.{Refusal}

-- ---- the image
-- the tail that was gathered is the words from 204 on
module _ (b : List ℕ) (n : ℕ) (h : length b ≡ 2048) (hn : eqb n 0 ≡ all_zero (take 416 (drop 1632 b))) where
  tail_is : all_zero (drop 204 (words_of 256 b)) ≡ eqb n 0
  tail_is = zero_tail 256 204 b h (omega arith) ∙ ap all_zero (sym (take_all 416 (drop 1632 b) (rw length-drop (omega arith)))) ∙ sym hn

  pub not_clear : (n ≡ 0 → ⊥) → true ≡ is_unfit b
  not_clear g = sym (ap (λ (x : Bool). not (is_long b) || is_outside (decode b).width || no_flags (decode b).flags || leb (2 ^ 50) (decode b).victims || not x) (tail_is ∙ ne_eqb n 0 g) ∙ or-true (not (is_long b) || is_outside (decode b).width || no_flags (decode b).flags || leb (2 ^ 50) (decode b).victims))

  pub unfit_is : n ≡ 0 → (w f v : ℕ) (o q : Bool) → w ≡ word_at b 0 → f ≡ word_at b 8 → v ≡ word_at b 24 → o ≡ is_outside w → q ≡ no_flags f
      → (o || q || leb 0x4000000000000 v) ≡ is_unfit b
  unfit_is g w f v o q hw hf hv ho hq =
      rw (tail_is, eq-eqb n 0 g, eq-eqb (length b) 2048 h, width_at b, flags_at b, victims_at b, ← hw, ← hf, ← hv, ← ho, ← hq) (sym (or-false _))

-- an image that is not refused is fit
passes : (u : Bool) → ◌≡◌ {A = ℕ} 0 (cond u 2 0) → u ≡ false
passes true e = absurd (omega arith)
passes false e = refl

module _ (b : List ℕ) (e : ◌≡◌ {A = ℕ} 0 (cond (is_unfit b) 2 0)) where
  fits : Fit b
  fits = fit b (passes (is_unfit b) e)

  pub fit_narrow : (decode b).width ≤ 52
  fit_narrow = fits.narrow

-- ---- the conditions
pub by_canonical : (b : List ℕ) (a n : ℕ) (p q : Bool) → p ≡ pg (decode b).flags → p ≡ true → ((c : Control) → q ≡ canonical c a) → n ≡ cond (not q) 5 0
    → n ≡ cond (no_address (decode b) a) 5 0
by_canonical b a n p q hp on hq h = h ∙ rw (← hp, on, ← hq (control (decode b)))

pub paging_is : (b : List ℕ) (f : ℕ) (p : Bool) → f ≡ word_at b 8 → p ≡ is_on 0 f → p ≡ pg (decode b).flags
paging_is b f p hf hp = hp ∙ ap (is_on 0) (hf ∙ sym (flags_at b))

-- over the words that were read
pub no_cr3_is : (b : List ℕ) (f w v n : ℕ) (p q : Bool) → f ≡ word_at b 8 → w ≡ word_at b 0 → n ≡ part 63 w v → p ≡ is_on 3 f → q ≡ is_on 63 v
    → (not (eqb n 0) || (q && not p)) ≡ no_cr3 (decode b) v
no_cr3_is b f w v n p q hf hw hn hp hq = rw (flags_at b, width_at b, ← hf, ← hw, ← hp, ← hq, ← hn)

-- from any flags and CR3
pub no_mode_is : (s : Image) (f r v n : ℕ) (p q g o : Bool) → f ≡ s.flags → r ≡ s.cr3 → n ≡ r % 4096 → p ≡ is_on 3 f → q ≡ is_on 3 v → g ≡ is_on 0 v
    → o ≡ no_flags v → (o || (q && not g) || (q && not p && not (eqb n 0))) ≡ no_mode s v
no_mode_is s f r v n p q g o hf hr hn hp hq hg ho =
    let e : r / 1 % 4096 ≡ n = omega arith in
    rw (← hf, ← hr, ← hp, ← hq, ← hg, ← ho, e)

-- INVPCID: a PCID that there is; then only the first two types ask more
pub strayed : (b : List ℕ) (k f : ℕ) (p : Bool) → f ≡ word_at b 8 → p ≡ is_on 3 f
    → (not p && not (eqb k 0)) ≡ (not (pcide (decode b).flags) && not (eqb k 0))
strayed b k f p hf hp = rw (flags_at b, ← hf, ← hp)

module _ (b : List ℕ) (t k a : ℕ) (s : Bool) (h : k ≤ 4095) (hs : s ≡ (not (pcide (decode b).flags) && not (eqb k 0))) where
  pub by_address_and_pcid : t ≡ 0 → (q : Bool) → ((c : Control) → q ≡ canonical c a) → (not q || s) ≡ no_invpcid (decode b) t k a
  by_address_and_pcid z q hq = rw (z, le-ltb 4095 k h, hs, ← hq (control (decode b)))

  pub by_pcid : t ≡ 1 → s ≡ no_invpcid (decode b) t k a
  by_pcid z = rw (z, le-ltb 4095 k h, hs)

pub width_low : (b : List ℕ) (w : ℕ) → (decode b).width ≤ 52 → w ≡ word_at b 0 → w ≤ 63
width_low b w h e = omega (arith, width_at b)

-- ---- the lowest that applies
pub some_number : (r : Refusal) → number_of r ≡ 0 → ⊥
some_number Refusal.Record e = omega arith
some_number Refusal.Image e = omega arith
some_number Refusal.Kind e = omega arith
some_number Refusal.Memory e = omega arith
some_number Refusal.Address e = omega arith
some_number Refusal.Cr3 e = omega arith
some_number Refusal.Mode e = omega arith
some_number Refusal.Invpcid e = omega arith
some_number Refusal.Pairs e = omega arith

-- the first of two, handed on, or the second
pub at_first : (u : Bool) (x : ℕ) (r : Refusal) (s : Result ⊤ Refusal) → IsErrAnd s (λ e. e ≡ r) → number_of r ≡ cond u 2 0 → told s ≡ cond u 2 x
at_first true x r (Err e) h n = ap number_of h ∙ n
at_first false x r (Err e) h n = absurd (some_number r n)
at_first u x r (Ok v) h n = absurd h

pub at_second : (u v o : Bool) (m n : ℕ) → ◌≡◌ {A = ℕ} 0 (cond u 2 0) → m ≡ cond o n 0 → o ≡ v → m ≡ cond u 2 (cond v n 0)
at_second u v o m n e h q = h ∙ rw (passes u e, q)

-- a mode write is judged from the words that were read
pub judged : (b : List ℕ) (f r v : ℕ) (m : Bool) → f ≡ word_at b 8 → r ≡ word_at b 16 → ((s : Image) → f ≡ s.flags → r ≡ s.cr3 → m ≡ no_mode s v) → m ≡ no_mode (decode b) v
judged b f r v m hf hr mode = mode (decode b) (hf ∙ sym (flags_at b)) (hr ∙ sym (cr3_at b))

-- of translate's first three one applies, or none does
one_of : (u q m : Bool) (x : ℕ) → (u || q || m) ≡ true → cond u 2 (cond q 3 4) ≡ cond u 2 (cond q 3 (cond m 4 x))
one_of true q m x h = refl
one_of false true m x h = refl
one_of false false true x h = refl
one_of false false false x h = absurd (true≢false (sym h))

none_of : (u q m : Bool) (x : ℕ) → (u || q || m) ≡ false → x ≡ cond u 2 (cond q 3 (cond m 4 x))
none_of u q m x h = rw (or_left u q (or_left (u || q) m h), or_right u q (or_left (u || q) m h), or_right (u || q) m h)

module _ (b : List ℕ) (mem : Memory) (k a ac : ℕ) (x : AskedOf) (asked : Asked b mem x) where
  pub by_first : (x.unfit || ltb 5 k || x.misfit) ≡ true → (n : ℕ) → n ≡ cond x.unfit 2 (cond (ltb 5 k) 3 4) → n ≡ refusal b mem (translate k a ac)
  by_first h n e = e ∙ rw (← asked.image, ← asked.memory) (one_of x.unfit (ltb 5 k) x.misfit (cond (no_address (decode b) a) 5 0) h)

  pub by_address : (x.unfit || ltb 5 k || x.misfit) ≡ false → (n : ℕ) → ((c : List ℕ) → x.paged ≡ pg (decode c).flags → n ≡ cond (no_address (decode c) a) 5 0)
      → n ≡ refusal b mem (translate k a ac)
  by_address h n g =
      g b (asked.paging (or_left x.unfit (ltb 5 k) (or_left (x.unfit || ltb 5 k) x.misfit h)))
      ∙ rw (← asked.image, ← asked.memory) (none_of x.unfit (ltb 5 k) x.misfit (cond (no_address (decode b) a) 5 0) h)
