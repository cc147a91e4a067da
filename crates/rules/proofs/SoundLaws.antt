-- What an accepted call leaves is sound, so that its bytes say the same as its parts and a proof may go by the parts.
-- A drop and a store keep an image sound, by `PlaceLaws`; what is stored for a page fits its two words, and the victims fit theirs.
use Prim.Native.Nat.{ℕ, ◌+◌, ◌-◌, ◌*◌, ◌/◌, ◌%◌, ◌^◌, ◌≤◌, ◌<◌}
use mathlib.Core.Path.{◌≡◌, refl, ap, sym, ◌∙◌}
use mathlib.Core.Logic.{◌⊎◌, inl, inr}
use mathlib.Core.Bool.{◌&&◌, ◌||◌, not}
use mathlib.Core.List.{List}
use native.Mathlib.Omega.{arith}
use native.Mathlib.Nat.{mod-lt, mul-le-mul_right}
use lib.Pow.{pow_pos, pow-add, split, shr_lt}
use Rattle.rules.specs.Bits.{is_on, AreBytes}
use Rattle.rules.specs.Sizes.{Is, size_at, page_number, set_of}
use Rattle.rules.specs.Image.{Image, started, decode, control, pge, pcide, pcid, victim, moved_on, Sound}
use Rattle.rules.specs.Memory.{Memory, entry_at}
use Rattle.rules.specs.Walk.{Leaf, reached, reach_in}
use Rattle.rules.specs.Buffer.{matches, of_pcid, stored, with_victims}
use Rattle.rules.specs.Refusals.{Request, start_with, translate, invlpg, invpcid, write_cr3, write_mode, canonical, refusal}
use Rattle.rules.specs.Calls.{After, access_of, invpcid_drops, same_mode, accepted, with_cr3, with_flags, Outcome, call}
use Rattle.rules.specs.declared.Access.{Access}
use Rattle.rules.proofs.BoolLaws.{either}
use Rattle.rules.proofs.SizeLaws.{size_at_lem, set_lt, page_lt, tag_lt, datum_lt}
use Rattle.rules.proofs.WalkLaws.{IsLeaf, is_leaf, leaf_lt}
use Rattle.rules.proofs.ImageLaws.{decode_encode}
use Rattle.rules.proofs.PlaceLaws.{sound_dropped, sound_stored, sound_victims, sound_flags, sound_cr3}
use Rattle.rules.proofs.CallLaws.{call_accepted}
use Rattle.rules.proofs.RefusalLaws.{mode_flags, given, Later, fits, fit_image}
use Rattle.rules.proofs.CallWays.{Way, unpaged, answered, walks, way, cleared, page_slot, Stores, walked_cases}

-- ---- the victims once one has moved on: with p = 2 ^ (2 * n), the victims are (4 * q + m) * p + r, of which m is set n's; x takes its place
placed : (p q m r v x : ℕ) → v ≡ (4 * q + m) * p + r → v - m * p + x * p ≡ (4 * q + x) * p + r
placed p q m r v x e = omega arith

placed_lt : (p k q r x : ℕ) → q < k → r < p → x < 4 → (4 * q + x) * p + r < 4 * k * p
placed_lt p k q r x h g f =
    let l : 4 * q + x + 1 ≤ 4 * k = omega arith in
    omega (arith, mul-le-mul_right p l)

module _ (n v : ℕ) where
  pub victim_parts : v ≡ (4 * (v / 2 ^ (2 * n) / 4) + victim n v) * 2 ^ (2 * n) + v % 2 ^ (2 * n)
  victim_parts =
      let q : 4 * (v / 2 ^ (2 * n) / 4) + victim n v ≡ v / 2 ^ (2 * n) = omega arith in
      rw q (sym (split v (2 * n)))

  -- they have two bits for each of 25 sets, so they stay below any power of 2 from 2 ^ 50 on
  moved_below : (x k : ℕ) → n < 25 → 50 ≤ k → v < 2 ^ k → x < 4 → v - victim n v * 2 ^ (2 * n) + x * 2 ^ (2 * n) < 2 ^ k
  moved_below x k h l g f =
      let j : k - 2 * n + 2 * n ≡ k = omega arith in
      let i : 2 + (k - 2 - 2 * n) ≡ k - 2 * n = omega arith in
      let m : 2 ^ (k - 2 * n) ≡ 4 * 2 ^ (k - 2 - 2 * n) = rw i at (pow-add 2 2 (k - 2 - 2 * n)) in
      let whole : 2 ^ k ≡ 4 * 2 ^ (k - 2 - 2 * n) * 2 ^ (2 * n) = rw (j, m) at (pow-add 2 (k - 2 * n) (2 * n)) in
      let q : v / 2 ^ (2 * n) < 2 ^ (k - 2 * n) = shr_lt (k - 2 * n) (2 * n) (rw j g) in
      rw (placed (2 ^ (2 * n)) _ (victim n v) _ v x victim_parts, whole)
      (placed_lt (2 ^ (2 * n)) (2 ^ (k - 2 - 2 * n)) _ _ x (omega arith) (mod-lt v (pow_pos (2 * n))) f)

  pub moved_lt : (x : ℕ) → n < 25 → v < 2 ^ 64 → x < 4 → v - victim n v * 2 ^ (2 * n) + x * 2 ^ (2 * n) < 2 ^ 64
  moved_lt x h g f = moved_below x 64 h (omega arith) g f

pub pcid_lt : (s : Image) → pcid s < 4096
pcid_lt s = either (λ (p : ℕ). p < 4096) (pcide s.flags) (s.cr3 / 2 ^ 0 % 2 ^ 12) 0 (λ e. omega arith) (λ e. omega arith)

-- ---- translate
module _ (s : Image) (mem : Memory) (k : Access) (a : ℕ) where
  page_size : (p : Leaf) → (reach_in mem (control s) a).end ≡ reached p → Is (size_at p.level)
  page_size p e =
      let l : IsLeaf (entry_at mem) (control s) p = is_leaf mem (control s) a p e in
      size_at_lem p.level l.low l.high

  -- the victims after a page was stored
  pub victims_below : (m : ℕ) → 50 ≤ m → s.victims < 2 ^ m → (p : Leaf) (i v : ℕ) → Stores s mem k a i v p → v < 2 ^ m
  victims_below m l g p i v h = go h.victims
    where
      go : (v ≡ s.victims) ⊎ (v ≡ moved_on (set_of (size_at p.level) a) s.victims) → v < 2 ^ m
      go (inl e) = rw e g
      go (inr e) =
          rw e (moved_below (set_of (size_at p.level) a) s.victims _ m (set_lt (size_at p.level) a (page_size p h.end)) l g (omega arith))

module _ (s : Image) (mem : Memory) (k : Access) (a : ℕ) (narrow : s.width ≤ 52) (sound : Sound s) where
  sound_page : (p : Leaf) (i v : ℕ) → Stores s mem k a i v p → Sound (stored i (page_slot s k a p) (with_victims v (cleared s a)))
  sound_page p i v h =
      let z : Is (size_at p.level) = page_size s mem k a p h.end in
      sound_stored i (page_slot s k a p) (with_victims v (cleared s a)) (omega (arith, set_lt (size_at p.level) a z))
      (tag_lt (pge s.flags && p.global) (pcid s) (page_number (size_at p.level) a) (pcid_lt s) (page_lt (size_at p.level) a z))
      (datum_lt p.rights (k.write || p.dirty) p.base (leaf_lt (entry_at mem) (control s) p (is_leaf mem (control s) a p h.end) narrow))
      (sound_victims v (cleared s a) (victims_below s mem k a 64 (omega arith) sound.victims p i v h)
      (sound_dropped (matches (pcid s) a) s sound))

  sound_way : {o : After} → Way s mem k a o → Sound o.image
  sound_way (unpaged off) = sound
  sound_way (answered on i e g) = sound
  sound_way (walks on un) = walked_cases s mem k a Sound (sound_dropped (matches (pcid s) a) s sound) sound_page

-- ---- any call
pub sound_started : (w f : ℕ) → w ≤ 52 → f < 2 ^ 7 → Sound (started w f)
sound_started w f h g =
    record {
      width = omega arith;
      flags = omega arith;
      cr3 = omega arith;
      victims = omega arith;
      tags = λ i. omega arith;
      datums = λ i. omega arith;
      beyond = λ i g. refl;
    }

module _ (b : List ℕ) (mem : Memory) (bytes : AreBytes b) where
  was_sound : (q : Request) → Later q → refusal b mem q ≡ 0 → Sound (decode b)
  was_sound q l h = (fit_image b bytes (fits q b mem l h)).sound

  pub sound_accepted : (q : Request) → refusal b mem q ≡ 0 → Sound (accepted (decode b) mem q).image
  sound_accepted (start_with w f) h = let g = given b mem (start_with w f) h in sound_started w f g.2 (mode_flags (started w 0) f g.3)
  sound_accepted (translate k a ac) h =
      sound_way (decode b) mem (access_of k ac) a (given b mem (translate k a ac) h).0.narrow (was_sound (translate k a ac) tt h) (way (decode b) mem (access_of k ac) a)
  sound_accepted (invlpg a) h =
      sound_dropped (λ i t. canonical (control (decode b)) a && matches (pcid (decode b)) a i t) (decode b) (was_sound (invlpg a) tt h)
  sound_accepted (invpcid t p a) h = sound_dropped (invpcid_drops t p a) (decode b) (was_sound (invpcid t p a) tt h)
  sound_accepted (write_cr3 v) h =
      sound_dropped (λ i t. not (is_on 63 v) && of_pcid (pcid (with_cr3 (v % 2 ^ 63) (decode b))) t) (with_cr3 (v % 2 ^ 63) (decode b))
      (sound_cr3 (v % 2 ^ 63) (decode b) (omega arith) (was_sound (write_cr3 v) tt h))
  sound_accepted (write_mode v) h =
      sound_dropped (λ i t. not (same_mode v (decode b).flags)) (with_flags v (decode b))
      (sound_flags v (decode b) (omega (arith, mode_flags (decode b) v (given b mem (write_mode v) h).1)) (was_sound (write_mode v) tt h))

  pub call_says : (q : Request) → refusal b mem q ≡ 0 → decode (call b mem q).image ≡ (accepted (decode b) mem q).image
  call_says q h = ap (λ (o : Outcome). decode o.image) (call_accepted b mem q h) ∙ decode_encode (accepted (decode b) mem q).image (sound_accepted q h)
