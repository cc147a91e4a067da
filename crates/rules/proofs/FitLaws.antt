-- What a translate leaves can be lent to the next one: an image that was fit stays fit, and one that was not stays as it is; its flags stay, and memory keeps its lengths.
-- A walk moves a victim on within its two bits and touches no other named word; the slots fit theirs by `SoundLaws`.
use Prim.Native.Nat.{ℕ, ◌^◌, ◌≤◌, ◌<◌}
use mathlib.Core.Path.{◌≡◌, refl, ap, sym, ◌∙◌}
use mathlib.Core.Bool.{false}
use mathlib.Core.List.{List}
use native.Mathlib.Omega.{arith}
use lib.ListN.{length}
use borrow.Author.Tests.{eq-eqb, le-ltb, lt-leb}
use Rattle.rules.specs.Bits.{AreBytes}
use Rattle.rules.specs.Image.{Image, encode, decode, Sound}
use Rattle.rules.specs.Memory.{Memory, no_lengths}
use Rattle.rules.specs.Refusals.{translate, is_unfit, refusal}
use Rattle.rules.specs.Calls.{After, access_of, accepted, Outcome, call}
use Rattle.rules.specs.declared.Access.{Access}
use Rattle.rules.proofs.ImageLaws.{encode_length, encode_tail, decode_encode}
use Rattle.rules.proofs.MemoryLaws.{lengths_stay}
use Rattle.rules.proofs.RefusalLaws.{Fit, given}
use Rattle.rules.proofs.CallWays.{Called, taken, refused, called, Way, unpaged, answered, walks, way, walked_cases}
use Rattle.rules.proofs.Grown.{call_grows}
use Rattle.rules.proofs.SoundLaws.{victims_below, sound_accepted}

-- ---- an image that is fit passes the test
pub fit_passes : (b : List ℕ) → Fit b → is_unfit b ≡ false
fit_passes b f =
    rw (
      eq-eqb (length b) 2048 f.long,
      le-ltb (decode b).width 36 f.wide,
      le-ltb 52 (decode b).width f.narrow,
      lt-leb (2 ^ 7) (decode b).flags f.flags,
      lt-leb (2 ^ 50) (decode b).victims f.victims,
      f.tail,
    )

-- ---- its named words, and those of the image after a translate
pub record Ranged (s : Image) : Type 0 where
  pub wide : 36 ≤ s.width
  pub narrow : s.width ≤ 52
  pub flags : s.flags < 2 ^ 7
  pub victims : s.victims < 2 ^ 50

fit_ranged : (b : List ℕ) → Fit b → Ranged (decode b)
fit_ranged b f = record { wide = f.wide; narrow = f.narrow; flags = f.flags; victims = f.victims }

pub fit_encoded : (s : Image) → Sound s → Ranged s → Fit (encode s)
fit_encoded s q r =
    let d : decode (encode s) ≡ s = decode_encode s q in
    record {
      long = encode_length s;
      wide = rw d r.wide;
      narrow = rw d r.narrow;
      flags = rw d r.flags;
      victims = rw d r.victims;
      tail = encode_tail s;
    }

way_ranged : (s : Image) (mem : Memory) (k : Access) (a : ℕ) → Ranged s → {o : After} → Way s mem k a o → Ranged o.image
way_ranged s mem k a r (unpaged off) = r
way_ranged s mem k a r (answered on i e g) = r
way_ranged s mem k a r (walks on un) =
    walked_cases s mem k a Ranged (record { wide = r.wide; narrow = r.narrow; flags = r.flags; victims = r.victims })
    (λ p i v h.
    record { wide = r.wide; narrow = r.narrow; flags = r.flags; victims = victims_below s mem k a 50 (omega arith) r.victims p i v h })

way_flags : (s : Image) (mem : Memory) (k : Access) (a : ℕ) {o : After} → Way s mem k a o → o.image.flags ≡ s.flags
way_flags s mem k a (unpaged off) = refl
way_flags s mem k a (answered on i e g) = refl
way_flags s mem k a (walks on un) = walked_cases s mem k a (λ (x : Image). x.flags ≡ s.flags) refl (λ p i v h. refl)

-- ---- a translate on the host's bytes
accepted_fit : (b : List ℕ) (mem : Memory) (k a ac : ℕ) → AreBytes b → refusal b mem (translate k a ac) ≡ 0
    → is_unfit (encode (accepted (decode b) mem (translate k a ac)).image) ≡ is_unfit b
accepted_fit b mem k a ac bytes e =
    let f : Fit b = (given b mem (translate k a ac) e).0 in
    let r : Ranged (accepted (decode b) mem (translate k a ac)).image =
    way_ranged (decode b) mem (access_of k ac) a (fit_ranged b f) (way (decode b) mem (access_of k ac) a) in
    fit_passes _ (fit_encoded (accepted (decode b) mem (translate k a ac)).image (sound_accepted b mem bytes (translate k a ac) e) r) ∙ sym (fit_passes b f)

pub fit_stays : (b : List ℕ) (mem : Memory) (k a ac : ℕ) → AreBytes b → is_unfit (call b mem (translate k a ac)).image ≡ is_unfit b
fit_stays b mem k a ac bytes = go (called b mem (translate k a ac))
  where
    go : {o : Outcome} → Called b mem (translate k a ac) o → is_unfit o.image ≡ is_unfit b
    go (taken e) = accepted_fit b mem k a ac bytes e
    go (refused n e) = refl

pub flags_stay : (b : List ℕ) (mem : Memory) (k a ac : ℕ) → AreBytes b → (decode (call b mem (translate k a ac)).image).flags ≡ (decode b).flags
flags_stay b mem k a ac bytes = go (called b mem (translate k a ac))
  where
    go : {o : Outcome} → Called b mem (translate k a ac) o → (decode o.image).flags ≡ (decode b).flags
    go (taken e) =
        ap (λ (s : Image). s.flags) (decode_encode (accepted (decode b) mem (translate k a ac)).image (sound_accepted b mem bytes (translate k a ac) e))
        ∙ way_flags (decode b) mem (access_of k ac) a (way (decode b) mem (access_of k ac) a)
    go (refused n e) = refl

pub memory_stays : (b : List ℕ) (mem : Memory) (k a ac : ℕ) → no_lengths (call b mem (translate k a ac)).memory ≡ no_lengths mem
memory_stays b mem k a ac = lengths_stay mem _ (call_grows b mem (translate k a ac)).lengths
