-- Starts. The plain one is refused by its length and its width alone; what the image held is not read; a start with flags is a start with none and then a mode
-- write of them.
use Prim.Native.Nat.{ℕ, ◌^◌, ◌≤◌, ◌<◌}
use mathlib.Core.Path.{◌≡◌, refl, ap, sym, ◌∙◌}
use mathlib.Core.Bool.{Bool, false, cond, ◌||◌, not}
use mathlib.Core.List.{List}
use native.Mathlib.Omega.{arith}
use lib.ListN.{length}
use Rattle.rules.specs.Image.{Image, started, encode, decode, Sound}
use Rattle.rules.specs.Memory.{Memory}
use Rattle.rules.specs.Buffer.{dropped}
use Rattle.rules.specs.Refusals.{start_with, start, write_mode, is_long, is_outside, is_unfit, refusals, refusal}
use Rattle.rules.specs.Calls.{with_cr3, with_flags, same_mode, Outcome, call}
use Rattle.rules.specs.declared.Answer.TheVariants.{Done}
use Rattle.rules.proofs.ImageLaws.{decode_encode}
use Rattle.rules.proofs.PlaceLaws.{sound_cr3}
use Rattle.rules.proofs.SlotLaws.{none_anyway}
use Rattle.rules.proofs.CallLaws.{call_accepted}
use Rattle.rules.proofs.RefusalLaws.{passed, given}
use Rattle.rules.proofs.SoundLaws.{sound_started}
use Rattle.rules.proofs.FitLaws.{fit_passes, Ranged, fit_encoded}

pub plain_refusal : (b : List ℕ) (mem : Memory) (w : ℕ) → refusal b mem (start w) ≡ cond (not (is_long b) || is_outside w) 2 0
plain_refusal b mem w = refl

-- ---- of what the image held only the length counts
pub start_anew : (b b' : List ℕ) (mem : Memory) (w f : ℕ) → length b ≡ length b' → refusal b mem (start_with w f) ≡ 0
    → call b mem (start_with w f) ≡ call b' mem (start_with w f)
start_anew b b' mem w f l h = call_accepted b mem (start_with w f) h ∙ sym (call_accepted b' mem (start_with w f) (rw (← l) h))

-- ---- an image that holds nothing: its bytes say it and are fit, and nothing can be dropped from it
abbrev pub bare : ℕ → ℕ → ℕ → Image
bare w f c = with_cr3 c (started w f)

pub bare_ranged : (w f c : ℕ) → 36 ≤ w → w ≤ 52 → f < 2 ^ 7 → Ranged (bare w f c)
bare_ranged w f c wide narrow flags = record { wide = wide; narrow = narrow; flags = flags; victims = omega arith }

module _ (w f c : ℕ) (r : Ranged (bare w f c)) (cr3 : c < 2 ^ 64) where
  bare_sound : Sound (bare w f c)
  bare_sound = sound_cr3 c (started w f) cr3 (sound_started w f r.narrow r.flags)

  pub bare_says : decode (encode (bare w f c)) ≡ bare w f c
  bare_says = decode_encode (bare w f c) bare_sound

  pub bare_fits : is_unfit (encode (bare w f c)) ≡ false
  bare_fits = fit_passes (encode (bare w f c)) (fit_encoded (bare w f c) bare_sound r)

pub bare_stays : (p : ℕ → ℕ → Bool) (w f c : ℕ) → dropped p (bare w f c) ≡ bare w f c
bare_stays p w f c = λ j. record { width = w; flags = f; cr3 = c; victims = 0; slots = λ i. none_anyway (p i 0) j }

-- ---- where a start with no flags is taken, one with flags is refused exactly as the mode write after it is, and else leaves the same
module _ (b : List ℕ) (mem : Memory) (w f : ℕ) (ok : refusal b mem (start_with w 0) ≡ 0) where
  abbrev after : List ℕ
  after = (call b mem (start_with w 0)).image

  after_is : after ≡ encode (started w 0)
  after_is = ap (λ (o : Outcome). o.image) (call_accepted b mem (start_with w 0) ok)

  after_ranged : Ranged (started w 0)
  after_ranged = let g = given b mem (start_with w 0) ok in bare_ranged w 0 0 g.1 g.2 (omega arith)

  pub as_mode_write : refusal b mem (start_with w f) ≡ refusal after mem (write_mode f)
  as_mode_write =
      rw ((passed (refusals b mem (start_with w 0)) (omega arith) ok).0, after_is, bare_fits w 0 0 after_ranged (omega arith), bare_says w 0 0 after_ranged (omega arith))

  pub leaves_mode : refusal b mem (start_with w f) ≡ 0 → call b mem (start_with w f) ≡ call after mem (write_mode f)
  leaves_mode h =
      let d : decode after ≡ started w 0 = ap decode after_is ∙ bare_says w 0 0 after_ranged (omega arith) in
      let e : dropped (λ i t. not (same_mode f (decode after).flags)) (with_flags f (decode after)) ≡ started w f =
      ap (λ (s : Image). dropped (λ i t. not (same_mode f s.flags)) (with_flags f s)) d ∙ bare_stays (λ i t. not (same_mode f 0)) w f 0 in
      call_accepted b mem (start_with w f) h ∙ sym (call_accepted after mem (write_mode f) (sym as_mode_write ∙ h) ∙ λ j. record { answer = Done; image = encode (e j); memory = mem })
