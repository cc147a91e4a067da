-- The image after each call is the rules' call on the parts of the image before it, although a history hands on bytes: what an accepted call leaves is
-- sound, by the rules' `SoundLaws`, so that its bytes say the same as its parts.
use Prim.Native.Nat.{ℕ, suc}
use mathlib.Core.Path.{◌≡◌, ap, sym, ◌∙◌, subst}
use mathlib.Core.List.{List}
use Rattle.rules.specs.Bits.{AreBytes}
use Rattle.rules.specs.Image.{Image, started, decode}
use Rattle.rules.specs.Memory.{Memory, empty}
use Rattle.rules.specs.Refusals.{Request, start_with, refusal}
use Rattle.rules.specs.Calls.{accepted, Outcome}
use Rattle.rules.proofs.ImageLaws.{encode_bytes, decode_encode}
use Rattle.rules.proofs.CallLaws.{call_accepted}
use Rattle.rules.proofs.RefusalLaws.{mode_flags, given}
use Rattle.rules.proofs.CallWays.{Called, taken, refused, called}
use Rattle.rules.proofs.SoundLaws.{sound_started, sound_accepted}
use Rattle.sequences.specs.History.{History, begun, ◌then◌with◌, bytes, image, Accepted}

-- ---- the bytes of a history are bytes
call_bytes : (b : List ℕ) (mem : Memory) (q : Request) → AreBytes b → {o : Outcome} → Called b mem q o → AreBytes o.image
call_bytes b mem q h (taken e) = encode_bytes (accepted (decode b) mem q).image
call_bytes b mem q h (refused n e) = h

are_bytes : (h : History) → AreBytes (bytes h)
unfolding bytes
are_bytes (begun b w f ok) = subst (λ (o : Outcome). AreBytes o.image) (sym (call_accepted b empty (start_with w f) ok)) (encode_bytes (started w f))
are_bytes (h then q with mem) = call_bytes (bytes h) mem q (are_bytes h) (called (bytes h) mem q)

-- ---- the image after start; after a call, which was accepted or refused
pub image_start : (b : List ℕ) (w f : ℕ) (ok : refusal b empty (start_with w f) ≡ 0) → image (begun b w f ok) ≡ started w f
unfolding bytes
image_start b w f ok =
    let g = given b empty (start_with w f) ok in
    ap (λ (o : Outcome). decode o.image) (call_accepted b empty (start_with w f) ok) ∙ decode_encode (started w f) (sound_started w f g.2 (mode_flags (started w 0) f g.3))

pub image_cases : (h : History) (mem : Memory) (q : Request) (C : Image → Type 0) → (Accepted h mem q → C (accepted (image h) mem q).image)
    → ((n : ℕ) → refusal (bytes h) mem q ≡ suc n → C (image h)) → C (image (h then q with mem))
unfolding bytes
image_cases h mem q C f g = go (called (bytes h) mem q)
  where
    go : {o : Outcome} → Called (bytes h) mem q o → C (decode o.image)
    go (taken e) = subst C (sym (decode_encode (accepted (image h) mem q).image (sound_accepted (bytes h) mem (are_bytes h) q e))) (f e)
    go (refused n e) = g n e
