-- A state that a history has led to is loaded by four calls. Each call keeps what the four ask of a state; an image that holds nothing has nothing to drop, so each of them
-- writes its word and no more.
use Prim.Native.Nat.{ℕ, ◌+◌, ◌-◌, ◌*◌, ◌/◌, ◌%◌, ◌^◌, ◌≤◌, ◌<◌}
use mathlib.Core.Path.{◌≡◌, ap, sym, ◌∙◌, subst}
use mathlib.Core.Bool.{false, ◌||◌, ◌&&◌, not, and-false}
use mathlib.Core.List.{List}
use native.Mathlib.Omega.{arith}
use native.Mathlib.Nat.{div-eq_of_lt, mod-eq_of_lt, mod-lt, lt_of_lt_of_le, zero-mul}
use lib.Pow.{pow_pos, pow_mono, mod-pow-add}
use lib.ListN.{length}
use borrow.Author.Tests.{eq-eqb, ne_eqb, le-ltb, lt-leb, eqb-true, not-false}
use Rattle.rules.specs.Bits.{is_on, part, one}
use Rattle.rules.specs.Image.{Image, pg, pcide, pcid, started, encode, decode}
use Rattle.rules.specs.Memory.{Memory, empty}
use Rattle.rules.specs.Buffer.{of_pcid, dropped}
use Rattle.rules.specs.Refusals.{Request, start_with, translate, invlpg, invpcid, write_cr3, write_mode, no_cr3, no_mode, no_flags, refusal}
use Rattle.rules.specs.Calls.{After, access_of, with_cr3, with_flags, same_mode, accepted, Outcome, call}
use Rattle.rules.proofs.BitLaws.{on_one}
use Rattle.rules.proofs.BoolLaws.{or_left}
use Rattle.rules.proofs.CallLaws.{call_accepted}
use Rattle.rules.proofs.CallWays.{Way, unpaged, answered, walks, way, walked_cases}
use Rattle.rules.proofs.RefusalLaws.{mode_flags, given}
use Rattle.rules.proofs.FitLaws.{Ranged}
use Rattle.rules.proofs.StartLaws.{bare, bare_ranged, bare_says, bare_fits, bare_stays}
use Rattle.sequences.specs.History.{History, begun, ◌then◌with◌, bytes, image, Accepted}
use Rattle.loading.specs.Loading.{early_flags, root_alone, after_start, after_root, after_mode, Loads, Loading}
use Rattle.sequences.proofs.Images.{image_start, image_cases}

-- ---- what is asked of a state: a width; flags that a start takes; CR3 below the width
record IsState (w f v : ℕ) : Type 0 where
  wide : 36 ≤ w
  narrow : w ≤ 52
  mode : no_mode (started w 0) f ≡ false
  cr3 : v < 2 ^ w

-- ---- each of the four is taken
early_off : (f : ℕ) → pcide (early_flags f) ≡ false
early_off f =
    let p : f / 1 % 2 ≡ one (pg f) = on_one 0 f in
    let q : f / 8 % 2 ≡ one (pcide f) = on_one 3 f in
    let h : f / 8 ≡ 2 * (f / 16) + f / 8 % 2 = omega arith in
    let g : early_flags f / 8 ≡ 2 * (f / 16) = omega arith in
    ne_eqb (early_flags f / 8 % 2) 1 (λ e. omega arith)

early_fits : (w f : ℕ) → no_mode (started w 0) f ≡ false → no_mode (started w 0) (early_flags f) ≡ false
early_fits w f h =
    let m : f < 2 ^ 7 = mode_flags (started w 0) f h in
    rw (early_off f, lt-leb (2 ^ 7) (early_flags f) (omega arith))

cr3_fits : (w f c v : ℕ) → w ≤ 52 → v < 2 ^ w → no_cr3 (bare w f c) v ≡ false
cr3_fits w f c v n h =
    let q : v / 2 ^ w ≡ 0 = div-eq_of_lt h in
    let p : part 63 w v ≡ 0 = rw (q, mod-eq_of_lt (pow_pos (63 - w)), zero-mul) in
    let t : v < 2 ^ 63 = lt_of_lt_of_le h (pow_mono {i = w} {j = 63} (omega arith)) in
    rw (p, ne_eqb (v / 2 ^ 63 % 2) 1 (λ e. omega arith))

-- over a CR3 that names no PCID
mode_fits : (w e c f : ℕ) → no_mode (started w 0) f ≡ false → c % 4096 ≡ 0 → no_mode (bare w e c) f ≡ false
mode_fits w e c f h z = rw (or_left (no_flags f || (pcide f && not (pg f))) _ h, eq-eqb (c / 1 % 4096) 0 (omega arith), and-false)

-- ---- an image that holds nothing, after a write of CR3 and of its flags
module _ (mem : Memory) (w f c : ℕ) (r : Ranged (bare w f c)) (fits : c < 2 ^ 64) where
  says : decode (encode (bare w f c)) ≡ bare w f c
  says = bare_says w f c r fits

  module _ (v : ℕ) (h : v < 2 ^ w) where
    written : refusal (encode (bare w f c)) mem (write_cr3 v) ≡ 0
    written = rw (bare_fits w f c r fits, says, cr3_fits w f c v r.narrow h)

    cr3_left : (call (encode (bare w f c)) mem (write_cr3 v)).image ≡ encode (bare w f v)
    cr3_left =
        let t : v % 2 ^ 63 ≡ v = mod-eq_of_lt (lt_of_lt_of_le h (pow_mono {i = w} {j = 63} (omega (arith, r.narrow)))) in
        ap (λ (o : Outcome). o.image) (call_accepted (encode (bare w f c)) mem (write_cr3 v) written)
        ∙ ap (λ (s : Image). encode (dropped (λ i u. not (is_on 63 v) && of_pcid (pcid (with_cr3 (v % 2 ^ 63) s)) u) (with_cr3 (v % 2 ^ 63) s))) says
        ∙ ap encode (bare_stays (λ i u. not (is_on 63 v) && of_pcid (pcid (bare w f (v % 2 ^ 63))) u) w f (v % 2 ^ 63) ∙ ap (bare w f) t)

  module _ (m : ℕ) (h : no_mode (bare w f c) m ≡ false) where
    switched : refusal (encode (bare w f c)) mem (write_mode m) ≡ 0
    switched = rw (bare_fits w f c r fits, says, h)

    mode_left : (call (encode (bare w f c)) mem (write_mode m)).image ≡ encode (bare w m c)
    mode_left =
        ap (λ (o : Outcome). o.image) (call_accepted (encode (bare w f c)) mem (write_mode m) switched)
        ∙ ap (λ (s : Image). encode (dropped (λ i u. not (same_mode m s.flags)) (with_flags m s))) says
        ∙ ap encode (bare_stays (λ i u. not (same_mode m f)) w m c)

-- ---- the four in turn
module _ (b : List ℕ) (mem : Memory) (w f v : ℕ) (long : length b ≡ 2048) (state : IsState w f v) where
  early_taken : refusal b mem (start_with w (early_flags f)) ≡ 0
  early_taken =
      rw (
        eq-eqb (length b) 2048 long,
        le-ltb w 36 state.wide,
        le-ltb 52 w state.narrow,
        early_fits w f state.mode,
      )

  early_left : after_start b mem w f ≡ encode (bare w (early_flags f) 0)
  early_left = ap (λ (o : Outcome). o.image) (call_accepted b mem (start_with w (early_flags f)) early_taken)

  ranged : (e c : ℕ) → e < 2 ^ 7 → Ranged (bare w e c)
  ranged e c h = bare_ranged w e c state.wide state.narrow h

  loads : Loads b mem w f v
  loads =
      let h : f < 2 ^ 7 = mode_flags (started w 0) f state.mode in
      let e : early_flags f < 2 ^ 7 = omega arith in
      let c : root_alone v < 2 ^ w = omega (arith, state.cr3) in
      let d : root_alone v < 2 ^ 64 = lt_of_lt_of_le c (pow_mono {i = w} {j = 64} (omega (arith, state.narrow))) in
      let m : no_mode (bare w (early_flags f) (root_alone v)) f ≡ false = mode_fits w (early_flags f) (root_alone v) f state.mode (omega arith) in
      let r₁ : Ranged (bare w (early_flags f) 0) = ranged (early_flags f) 0 e in
      let r₂ : Ranged (bare w (early_flags f) (root_alone v)) = ranged (early_flags f) (root_alone v) e in
      let r₃ : Ranged (bare w f (root_alone v)) = ranged f (root_alone v) h in
      let q : after_root b mem w f v ≡ encode (bare w (early_flags f) (root_alone v)) =
      ap (λ (x : List ℕ). (call x mem (write_cr3 (root_alone v))).image) early_left ∙ cr3_left mem w (early_flags f) 0 r₁ (omega arith) (root_alone v) c in
      let r : after_mode b mem w f v ≡ encode (bare w f (root_alone v)) =
      ap (λ (x : List ℕ). (call x mem (write_mode f)).image) q ∙ mode_left mem w (early_flags f) (root_alone v) r₂ d f m in
      record {
        start_taken = early_taken;
        root_taken = rw early_left (written mem w (early_flags f) 0 r₁ (omega arith) (root_alone v) c);
        mode_taken = rw q (switched mem w (early_flags f) (root_alone v) r₂ d f m);
        cr3_taken = rw r (written mem w f (root_alone v) r₃ d v state.cr3);
        left = ap (λ (x : List ℕ). (call x mem (write_cr3 v)).image) r ∙ cr3_left mem w f (root_alone v) r₃ d v state.cr3;
      }

-- ---- each call keeps it
abbrev InState : Image → Type 0
InState s = IsState s.width s.flags s.cr3

-- what a CR3 write takes has no bit from the width up, but for bit 63, which is not stored
stored_low : (w v : ℕ) → w ≤ 52 → part 63 w v ≡ 0 → v % 2 ^ 63 < 2 ^ w
stored_low w v n h =
    let q : 63 - w + w ≡ 63 = omega arith in
    let d : v % 2 ^ 63 ≡ part 63 w v + v % 2 ^ w = rw q at (mod-pow-add v (63 - w) w) in
    omega (arith, mod-lt v (pow_pos w))

start_keeps : (b : List ℕ) (mem : Memory) (w f : ℕ) → refusal b mem (start_with w f) ≡ 0 → InState (started w f)
start_keeps b mem w f ok = let g = given b mem (start_with w f) ok in record { wide = g.1; narrow = g.2; mode = g.3; cr3 = pow_pos w }

module _ (h : History) (mem : Memory) (old : InState (image h)) where
  keeps : (q : Request) → Accepted h mem q → InState (accepted (image h) mem q).image
  keeps (start_with w f) ok = start_keeps (bytes h) mem w f ok
  keeps (translate k a ac) ok = way_keeps (way (image h) mem (access_of k ac) a)
    where
      way_keeps : {o : After} → Way (image h) mem (access_of k ac) a o → InState o.image
      way_keeps (unpaged off) = old
      way_keeps (answered on i e g) = old
      way_keeps (walks on un) = walked_cases (image h) mem (access_of k ac) a InState old (λ p i v g. old)
  keeps (invlpg a) ok = old
  keeps (invpcid t p a) ok = old
  keeps (write_cr3 v) ok =
      record {
        wide = old.wide;
        narrow = old.narrow;
        mode = old.mode;
        cr3 = stored_low (image h).width v old.narrow (eqb-true _ 0 (not-false _ (or_left _ _ (given (bytes h) mem (write_cr3 v) ok).1)));
      }
  keeps (write_mode v) ok =
      let m : no_mode (image h) v ≡ false = (given (bytes h) mem (write_mode v) ok).1 in
      record {
        wide = old.wide;
        narrow = old.narrow;
        mode = rw (or_left (no_flags v || (pcide v && not (pg v))) _ m, and-false);
        cr3 = old.cr3;
      }

in_state : (h : History) → InState (image h)
in_state (begun b w f ok) = subst InState (sym (image_start b w f ok)) (start_keeps b empty w f ok)
in_state (h then q with mem) = image_cases h mem q InState (keeps h mem (in_state h) q) (λ n e. in_state h)

pub loading : Loading
loading h b mem long = loads b mem (image h).width (image h).flags (image h).cr3 long (in_state h)
