-- What a call that is not refused was given, as far as proofs go by it: no refusal of its list applies, so each test of the table is passed.
use Prim.Native.Nat.{ℕ, ◌^◌, ◌≤◌, ◌<◌}
use mathlib.Core.Path.{◌≡◌, refl}
use mathlib.Core.Bool.{Bool, true, false, cond, ◌||◌, not}
use mathlib.Core.List.{List, [], ◌∷◌}
use native.Mathlib.Omega.{arith}
use lib.ListN.{length, drop}
use lib.Dec.{leb, ltb}
use borrow.Author.Tests.{eqb-true, ltb-false, leb-false, not-false}
use Rattle.rules.specs.Bits.{AreBytes, words_of}
use Rattle.rules.specs.Image.{Image, started, decode, IsImage}
use Rattle.rules.specs.Memory.{Memory}
use Rattle.rules.specs.Refusals.{Request, start_with, translate, invlpg, invpcid, write_cr3, write_mode, Refusal, lowest, is_long, is_outside, all_zero, no_flags, is_unfit, no_address, no_cr3, no_mode, refusals, refusal}
use Rattle.rules.proofs.BoolLaws.{or_left, or_right}
use Rattle.rules.proofs.MemoryLaws.{Lengths, lengths}
use Rattle.rules.proofs.PlaceLaws.{image_of}
use Rattle.rules.proofs.CallLaws.{Above}

-- ---- an image that is fit: its length, its width, its flags and victim numbers, and nothing after the slots
pub record Fit (b : List ℕ) : Type 0 where
  pub long : length b ≡ 2048
  pub wide : 36 ≤ (decode b).width
  pub narrow : (decode b).width ≤ 52
  pub flags : (decode b).flags < 2 ^ 7
  pub victims : (decode b).victims < 2 ^ 50
  pub tail : all_zero (drop 204 (words_of 256 b)) ≡ true

-- the length and a width, of the image or of a start
sized : (b : List ℕ) (w : ℕ) → (not (is_long b) || is_outside w) ≡ false → (length b ≡ 2048) × (36 ≤ w) × (w ≤ 52)
sized b w h =
    let o : is_outside w ≡ false = or_right (not (is_long b)) _ h in
    (eqb-true (length b) 2048 (not-false (is_long b) (or_left _ (is_outside w) h)), ltb-false w 36 (or_left _ (ltb 52 w) o), ltb-false 52 w (or_right (ltb w 36) _ o))

pub fit : (b : List ℕ) → is_unfit b ≡ false → Fit b
fit b h =
    let s : (length b ≡ 2048) × (36 ≤ (decode b).width) × ((decode b).width ≤ 52) = sized b (decode b).width (or_left _ _ (or_left _ _ (or_left _ _ h))) in
    record {
      long = s.0;
      wide = s.1;
      narrow = s.2;
      flags = leb-false (2 ^ 7) (decode b).flags (or_right (not (is_long b) || is_outside (decode b).width) _ (or_left _ _ (or_left _ _ h)));
      victims =
          leb-false (2 ^ 50) (decode b).victims
          (or_right (not (is_long b) || is_outside (decode b).width || no_flags (decode b).flags) _ (or_left _ _ h));
      tail =
          not-false (all_zero (drop 204 (words_of 256 b)))
          (or_right (not (is_long b) || is_outside (decode b).width || no_flags (decode b).flags || leb (2 ^ 50) (decode b).victims) _ h);
    }

pub fit_image : (b : List ℕ) → AreBytes b → Fit b → IsImage b
fit_image b bytes f = image_of b bytes f.long f.tail

-- ---- a list of refusals that gives 0
abbrev pub Passed : List Refusal → Type 0
Passed [] = Unit {0}
Passed (r ∷ rs) = (r.applies ≡ false) × Passed rs

pub passed : (rs : List Refusal) → Above 0 rs → lowest rs ≡ 0 → Passed rs
passed [] above h = tt
passed (r ∷ rs) above h = go r.applies refl h (passed rs above.1)
  where
    go : (b : Bool) → r.applies ≡ b → cond b r.number (lowest rs) ≡ 0 → (lowest rs ≡ 0 → Passed rs) → (r.applies ≡ false) × Passed rs
    go true e h ih = absurd (omega (arith, above.0))
    go false e h ih = (e, ih h)

-- ---- each call
-- a mode that there is has no flag that there is not
pub mode_flags : (s : Image) (v : ℕ) → no_mode s v ≡ false → v < 2 ^ 7
mode_flags s v h = leb-false (2 ^ 7) v (or_left (no_flags v) _ (or_left _ _ h))

abbrev pub Given : List ℕ → Memory → Request → Type 0
Given b mem (start_with w f) = (length b ≡ 2048) × (36 ≤ w) × (w ≤ 52) × (no_mode (started w 0) f ≡ false)
Given b mem (translate k a ac) = Fit b × (k ≤ 5) × Lengths mem × (no_address (decode b) a ≡ false)
Given b mem (invlpg a) = Fit b
Given b mem (invpcid t p a) = Fit b × (p ≤ 4095)
Given b mem (write_cr3 v) = Fit b × (no_cr3 (decode b) v ≡ false)
Given b mem (write_mode v) = Fit b × (no_mode (decode b) v ≡ false)

pub given : (b : List ℕ) (mem : Memory) (q : Request) → refusal b mem q ≡ 0 → Given b mem q
given b mem (start_with w f) h =
    let p : Passed (refusals b mem (start_with w f)) = passed (refusals b mem (start_with w f)) (omega arith) h in
    let s : (length b ≡ 2048) × (36 ≤ w) × (w ≤ 52) = sized b w p.0 in
    (s.0, s.1, s.2, p.1.0)
given b mem (translate k a ac) h =
    let p : Passed (refusals b mem (translate k a ac)) = passed (refusals b mem (translate k a ac)) (omega arith) h in
    (fit b p.0, ltb-false 5 k p.1.0, lengths mem p.1.1.0, p.1.1.1.0)
given b mem (invlpg a) h = fit b (passed (refusals b mem (invlpg a)) (omega arith) h).0
given b mem (invpcid t p a) h =
    let q : Passed (refusals b mem (invpcid t p a)) = passed (refusals b mem (invpcid t p a)) (omega arith) h in
    (fit b q.0, ltb-false 4095 p (or_right (ltb 3 t) _ (or_left _ _ (or_left _ _ q.1.0))))
given b mem (write_cr3 v) h =
    let q : Passed (refusals b mem (write_cr3 v)) = passed (refusals b mem (write_cr3 v)) (omega arith) h in
    (fit b q.0, q.1.0)
given b mem (write_mode v) h =
    let q : Passed (refusals b mem (write_mode v)) = passed (refusals b mem (write_mode v)) (omega arith) h in
    (fit b q.0, q.1.0)

-- every call but a start was given an image
abbrev pub Later : Request → Type 0
Later (start_with w f) = ⊥
Later (translate k a ac) = Unit {0}
Later (invlpg a) = Unit {0}
Later (invpcid t p a) = Unit {0}
Later (write_cr3 v) = Unit {0}
Later (write_mode v) = Unit {0}

pub fits : (q : Request) (b : List ℕ) (mem : Memory) → Later q → refusal b mem q ≡ 0 → Fit b
fits (start_with w f) b mem l h = absurd l
fits (translate k a ac) b mem l h = (given b mem (translate k a ac) h).0
fits (invlpg a) b mem l h = given b mem (invlpg a) h
fits (invpcid t p a) b mem l h = (given b mem (invpcid t p a) h).0
fits (write_cr3 v) b mem l h = (given b mem (write_cr3 v) h).0
fits (write_mode v) b mem l h = (given b mem (write_mode v) h).0
