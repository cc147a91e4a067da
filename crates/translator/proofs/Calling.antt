-- The ways through the calls: refused, and accepted, each to the outcome of the rules' call.
use Prim.Native.Nat.{ℕ, zero, suc, ◌%◌, ◌^◌, ◌<◌}
use mathlib.Core.Path.{◌≡◌, refl, ap, ap₂, sym, ◌∙◌, subst}
use mathlib.Core.Bool.{Bool, true, false, ◌&&◌, not}
use mathlib.Core.List.{List}
use native.Mathlib.Omega.{arith}
use lib.ListN.{length, replicate}
use Rattle.rules.specs.Bits.{AreBytes, is_on, word_at, word_put}
use Rattle.rules.specs.Image.{Image, started, encode, decode, control, pcid, Sound, IsImage}
use Rattle.rules.specs.Memory.{Memory, empty}
use Rattle.rules.specs.Refusals.{Request, start_with, invlpg, invpcid, write_cr3, write_mode, canonical, refusal}
use Rattle.rules.specs.Calls.{with_cr3, with_flags, same_mode, invpcid_drops, accepted, done, Outcome, encoded, by_number}
use Rattle.rules.specs.Buffer.{matches, of_pcid, dropped}
use Rattle.rules.specs.declared.Control.{Control}
use Rattle.rules.specs.declared.Answer.{Answer}
use Rattle.rules.specs.declared.Answer.TheVariants.{Refused, Done}
use Rattle.rules.proofs.ImageLaws.{cr3_bytes, flags_bytes, decode_encode}
use Rattle.rules.proofs.PlaceLaws.{is_encoded, flags_at, sound_flags, sound_cr3}
use Rattle.rules.proofs.RefusalLaws.{mode_flags, given, Later, fits, fit_image}
use Rattle.refusals.specs.Refusal.{number_of}
use Rattle.refusals.specs.declared.refusal.Refusal.{Refusal}
use Rattle.refusals.proofs.Checks.{some_number}
use Rattle.drops.specs.Drops.{dropped_in, every, not_global, every_of, every_of_at}
use Rattle.std.specs.Prelude.{Option, Some, MatchOption, ◌≢◌}
use Rattle.std.specs.Array.{IsWholeChunk}
use Rattle.std.proofs.Common.{MutBor}
use Rattle.translator.specs.Contract.{Leaves}

-- ---- refused, or accepted
by_refusal : (q : Request) (b : List ℕ) (n : ℕ) → ((mem : Memory) → refusal b mem q ≡ refusal b empty q) → n ≡ refusal b empty q → (n ≡ 0 → ⊥)
    → Leaves q b b (Refused n)
by_refusal q b zero f h g = absurd (g refl)
by_refusal q b (suc n) f h g = record { outcome = λ mem. sym (ap (by_number b mem q) (f mem ∙ sym h)) }

pub refuses : (q : Request) (b : List ℕ) (e : Refusal) (r : Answer) → ((mem : Memory) → refusal b mem q ≡ refusal b empty q) → number_of e ≡ refusal b empty q
    → r ≡ Refused (number_of e) → Leaves q b b r
refuses q b e r f h g = subst (Leaves q b b) (sym g) (by_refusal q b (number_of e) f h (some_number e))

accepts : (q : Request) (b b' : List ℕ) (r : Answer) → ((mem : Memory) → refusal b mem q ≡ refusal b empty q) → 0 ≡ refusal b empty q
    → ((mem : Memory) → ◌≡◌ {A = Outcome} (record { answer = r; image = b'; memory = mem }) (encoded (accepted (decode b) mem q)))
    → Leaves q b b' r
accepts q b b' r f h g = record { outcome = λ mem. g mem ∙ sym (ap (by_number b mem q) (f mem ∙ sym h)) }

-- ---- start: two words are put into bytes that are clear
started_bytes : (w f : ℕ) → word_put (word_put (replicate 2048 0) 0 w) 8 f ≡ encode (started w f)
unfolding encode
started_bytes w f = refl

module _ (w f : ℕ) (b b₁ : List ℕ) (h : 0 ≡ refusal b empty (start_with w f)) (clear : b₁ ≡ replicate (length b) 0) where
  cleared : b₁ ≡ replicate 2048 0
  cleared = clear ∙ ap (λ (k : ℕ). replicate {A = ℕ} k 0) (given b empty (start_with w f) (sym h)).0

  module _ (b₂ : List ℕ) (put : b₂ ≡ word_put b₁ 0 w) where
    sized : b₂ ≡ word_put (replicate 2048 0) 0 w
    sized = put ∙ ap (λ (x : List ℕ). word_put x 0 w) cleared

    pub starts : (b₃ : List ℕ) → b₃ ≡ word_put b₂ 8 f → Leaves (start_with w f) b b₃ Done
    starts b₃ e =
        let q : b₃ ≡ encode (started w f) = e ∙ ap (λ (x : List ℕ). word_put x 8 f) sized ∙ started_bytes w f in
        accepts (start_with w f) b b₃ Done (λ mem. refl) h (λ mem. λ i. record { answer = Done; image = q i; memory = mem })

-- ---- a call other than a start that is accepted was given an image
pub call_image : (q : Request) (b : List ℕ) (mem : Memory) → Later q → AreBytes b → 0 ≡ refusal b mem q → IsImage b
call_image q b mem l bytes h = fit_image b bytes (fits q b mem l (sym h))

-- ---- a call that is done leaves the bytes of the image that the rules say
does : (q : Request) (b b' : List ℕ) (s' : Image) → ((mem : Memory) → refusal b mem q ≡ refusal b empty q)
    → ((mem : Memory) → accepted (decode b) mem q ≡ done s' mem) → 0 ≡ refusal b empty q → b' ≡ encode s' → Leaves q b b' Done
does q b b' s' f g h e =
    accepts q b b' Done f h (λ mem. (λ i. record { answer = Done; image = e i; memory = mem }) ∙ ap encoded (sym (g mem)))

-- ---- what is lent as an array is the image as it was
pub lent_whole : (b : List ℕ) (o : Option (MutBor (List ℕ))) (y : MutBor (List ℕ)) → MatchOption o (length b ≢ 2048) (λ z. IsWholeChunk b z.now 2048)
    → o ≡ Some y → y.now ≡ b
lent_whole b o y m e = let w = subst (λ z. MatchOption z (length b ≢ 2048) (λ z. IsWholeChunk b z.now 2048)) e m in w.same

-- ---- INVLPG
module _ (a : ℕ) (b : List ℕ) (k : Bool) (h : 0 ≡ refusal b empty (invlpg a)) (kind : (c : Control) → k ≡ canonical c a) where
  pub invlpg_drops : k ≡ true → (p : ℕ) (b' : List ℕ) → p ≡ pcid (decode b) → b' ≡ dropped_in (matches p a) b → Leaves (invlpg a) b b' Done
  unfolding dropped_in
  invlpg_drops t p b' hp e =
      does (invlpg a) b b' (dropped (λ i u. canonical (control (decode b)) a && matches (pcid (decode b)) a i u) (decode b)) (λ mem. refl) (λ mem. refl) h
      (rw (← kind (control (decode b)), t, ← hp) e)

  pub invlpg_nothing : k ≡ false → IsImage b → Leaves (invlpg a) b b Done
  invlpg_nothing t was =
      does (invlpg a) b b (dropped (λ i u. canonical (control (decode b)) a && matches (pcid (decode b)) a i u) (decode b)) (λ mem. refl) (λ mem. refl) h
      (rw (← kind (control (decode b)), t) (sym was.says))

-- ---- INVPCID, by its type
module _ (t p a : ℕ) (b x b' : List ℕ) (h : 0 ≡ refusal b empty (invpcid t p a)) (lent : x ≡ b) where
  by_type : (u : ℕ) → t ≡ u → b' ≡ dropped_in (invpcid_drops u p a) x → Leaves (invpcid t p a) b b' Done
  unfolding dropped_in
  by_type u q e =
      does (invpcid t p a) b b' (dropped (invpcid_drops t p a) (decode b)) (λ mem. refl) (λ mem. refl) h
      (e ∙ ap (λ (y : List ℕ). encode (dropped (invpcid_drops u p a) (decode y))) lent ∙ ap (λ (v : ℕ). encode (dropped (invpcid_drops v p a) (decode b))) (sym q))

  pub invpcid_0 : t ≡ 0 → b' ≡ dropped_in (every_of_at p a) x → Leaves (invpcid t p a) b b' Done
  invpcid_0 q e = by_type 0 q e

  pub invpcid_1 : t ≡ 1 → b' ≡ dropped_in (every_of p) x → Leaves (invpcid t p a) b b' Done
  invpcid_1 q e = by_type 1 q e

  pub invpcid_2 : t ≡ 2 → b' ≡ dropped_in every x → Leaves (invpcid t p a) b b' Done
  invpcid_2 q e = by_type 2 q e

  pub invpcid_3 : (t ≡ 0 → ⊥) → (t ≡ 1 → ⊥) → (t ≡ 2 → ⊥) → b' ≡ dropped_in not_global x → Leaves (invpcid t p a) b b' Done
  invpcid_3 f g k e = go t refl
    where
      go : (u : ℕ) → t ≡ u → Leaves (invpcid t p a) b b' Done
      go zero q = absurd (f q)
      go (suc zero) q = absurd (g q)
      go (suc (suc zero)) q = absurd (k q)
      go (suc (suc (suc u))) q = by_type (suc (suc (suc u))) q e

  -- the PCID is one of 4,096
  pub asked_pcid_lt : p < 4096
  asked_pcid_lt = omega (arith, (given b empty (invpcid t p a) (sym h)).1)

-- ---- a CR3 write
module _ (v : ℕ) (b b₁ : List ℕ) (was : IsImage b) (h : 0 ≡ refusal b empty (write_cr3 v)) (put : b₁ ≡ word_put b 16 (v % 2 ^ 63)) where
  abbrev rooted : Image
  rooted = with_cr3 (v % 2 ^ 63) (decode b)

  rooted_bytes : b₁ ≡ encode rooted
  rooted_bytes = put ∙ sym (cr3_bytes (v % 2 ^ 63) (decode b) ∙ ap (λ (x : List ℕ). word_put x 16 (v % 2 ^ 63)) was.says)

  rooted_sound : Sound rooted
  rooted_sound = sound_cr3 (v % 2 ^ 63) (decode b) (omega arith) was.sound

  pub cr3_image : IsImage b₁
  cr3_image = subst IsImage (sym rooted_bytes) (is_encoded rooted rooted_sound)

  pub cr3_keeps : (k : Bool) → k ≡ is_on 63 v → k ≡ true → Leaves (write_cr3 v) b b₁ Done
  cr3_keeps k e t =
      does (write_cr3 v) b b₁ (dropped (λ i u. not (is_on 63 v) && of_pcid (pcid rooted) u) rooted) (λ mem. refl) (λ mem. refl) h (rw (← e, t) rooted_bytes)

  pub cr3_drops : (k : Bool) → k ≡ is_on 63 v → k ≡ false → (p : ℕ) (b₂ : List ℕ) → p ≡ pcid (decode b₁) → b₂ ≡ dropped_in (every_of p) b₁
      → Leaves (write_cr3 v) b b₂ Done
  unfolding dropped_in
  cr3_drops k e t p b₂ hp d =
      let r : decode b₁ ≡ rooted = ap decode rooted_bytes ∙ decode_encode rooted rooted_sound in
      does (write_cr3 v) b b₂ (dropped (λ i u. not (is_on 63 v) && of_pcid (pcid rooted) u) rooted) (λ mem. refl) (λ mem. refl) h
      (rw (← e, t) (d ∙ ap₂ (λ (y : ℕ) (s : Image). encode (dropped (λ i u. of_pcid y u) s)) (hp ∙ ap pcid r) r))

-- ---- a mode write
module _ (v f : ℕ) (b b₁ : List ℕ) (was : IsImage b) (h : 0 ≡ refusal b empty (write_mode v)) (old : f ≡ word_at b 8)
    (put : b₁ ≡ word_put b 8 v) where
  abbrev moded : Image
  moded = with_flags v (decode b)

  moded_bytes : b₁ ≡ encode moded
  moded_bytes = put ∙ sym (flags_bytes v (decode b) ∙ ap (λ (x : List ℕ). word_put x 8 v) was.says)

  moded_sound : Sound moded
  moded_sound = sound_flags v (decode b) (omega (arith, mode_flags (decode b) v (given b empty (write_mode v) (sym h)).1)) was.sound

  pub mode_image : IsImage b₁
  mode_image = subst IsImage (sym moded_bytes) (is_encoded moded moded_sound)

  pub mode_keeps : (k : Bool) → k ≡ same_mode v f → k ≡ true → Leaves (write_mode v) b b₁ Done
  mode_keeps k e t =
      does (write_mode v) b b₁ (dropped (λ i u. not (same_mode v (decode b).flags)) moded) (λ mem. refl) (λ mem. refl) h
      (rw (flags_at b, ← old, ← e, t) moded_bytes)

  pub mode_drops : (k : Bool) → k ≡ same_mode v f → k ≡ false → (b₂ : List ℕ) → b₂ ≡ dropped_in every b₁ → Leaves (write_mode v) b b₂ Done
  unfolding dropped_in
  mode_drops k e t b₂ d =
      let r : decode b₁ ≡ moded = ap decode moded_bytes ∙ decode_encode moded moded_sound in
      does (write_mode v) b b₂ (dropped (λ i u. not (same_mode v (decode b).flags)) moded) (λ mem. refl) (λ mem. refl) h
      (rw (flags_at b, ← old, ← e, t) (d ∙ ap (λ (s : Image). encode (dropped every s)) r))
