-- A contract admits one outcome: two programs that keep it print the same bytes, say the same numbers and leave the same. Nothing is said of lent bytes behind what is
-- printed, or behind what is kept of a line.
use Prim.Native.Nat.{ℕ, ◌≤◌}
use mathlib.Core.Path.{◌≡◌, ap, sym, ◌∙◌}
use mathlib.Core.List.{List}
use native.Mathlib.Omega.{arith}
use lib.ListN.{length, take}
use lib.Seq.{length-take-le}
use Rattle.trace.specs.Does.{Low}
use Rattle.trace.specs.Pieces.{Taken}
use Rattle.runs.specs.declared.Run.{Run as RunOf}
use Rattle.runs.specs.declared.Fed.{Fed}
use Rattle.runs.specs.Feeding.{run_of, Feeds, Finishes}

-- so many bytes are printed as there are
count_one : (n₁ n₂ : ℕ) (out₁ out₂ : List ℕ) → n₁ ≤ length out₁ → n₂ ≤ length out₂ → take n₁ out₁ ≡ take n₂ out₂ → n₁ ≡ n₂
count_one n₁ n₂ out₁ out₂ h g e = sym (length-take-le n₁ out₁ h) ∙ ap length e ∙ length-take-le n₂ out₂ g

module _ (b b₁ b₂ : List ℕ) (mem mem₁ mem₂ : Low) (out₁ out₂ : List ℕ) where
  pub feeds_one : (r : RunOf) (kept kept₁ kept₂ piece out : List ℕ) (f₁ f₂ : Fed) → length out₁ ≡ length out → length out₂ ≡ length out
      → Feeds r b b₁ mem mem₁ kept kept₁ piece out out₁ f₁ → Feeds r b b₂ mem mem₂ kept kept₂ piece out out₂ f₂
      → (f₁.written ≡ f₂.written)
      × ◌≡◌ {A = Taken} (record { step = record { out = take f₁.written out₁; run = run_of f₁.run kept₁ b₁ mem₁ }; taken = f₁.taken })
      (record { step = record { out = take f₂.written out₂; run = run_of f₂.run kept₂ b₂ mem₂ }; taken = f₂.taken })
  feeds_one r kept kept₁ kept₂ piece out f₁ f₂ e₁ e₂ h g =
      let same = h.taken ∙ sym g.taken in
      (count_one f₁.written f₂.written out₁ out₂ (omega (arith, h.fits)) (omega (arith, g.fits)) (ap (λ (t : Taken). t.step.out) same), same)

  pub finishes_one : (r : RunOf) (kept : List ℕ) (n₁ n₂ : ℕ) → Finishes r b b₁ mem mem₁ kept out₁ n₁ → Finishes r b b₂ mem mem₂ kept out₂ n₂
      → (n₁ ≡ n₂) × ((take n₁ out₁ ≡ take n₂ out₂) × ((b₁ ≡ b₂) × (mem₁ ≡ mem₂)))
  finishes_one r kept n₁ n₂ h g =
      let same = h.text ∙ sym g.text in
      (count_one n₁ n₂ out₁ out₂ h.fits g.fits same, (same, (h.image ∙ sym g.image, h.memory ∙ sym g.memory)))
