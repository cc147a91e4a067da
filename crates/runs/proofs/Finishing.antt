-- The input's end: where nothing is kept of a line that lacks its end, the totals alone; else that line is given its end, and then the totals.
use Prim.Native.Nat.{ℕ, ◌+◌, ◌≤◌}
use mathlib.Core.Path.{◌≡◌, refl, ap, ◌∙◌}
use mathlib.Core.Bool.{Bool, true, false, ◌||◌}
use mathlib.Core.List.{List, [], ◌∷◌, ◌++◌, append-nil}
use native.Mathlib.Omega.{arith}
use lib.Dec.{eqb}
use lib.ListN.{length, take}
use lib.Seq.{length-take-le}
use borrow.Author.Tests.{le-ltb, ne_eqb}
use Rattle.rules.proofs.BoolLaws.{either}
use Rattle.trace.specs.Text.{feed}
use Rattle.trace.specs.Does.{Low, line_does}
use Rattle.trace.specs.Printed.{total_line}
use Rattle.trace.specs.Pieces.{Run, Step, ends, is_over, last_line, finished, room, Taken, taking}
use Rattle.trace.proofs.Room.{line_low}
use Rattle.printing.specs.Puts.{Puts}
use Rattle.printing.proofs.Putting.{puts_fits}
use Rattle.runs.specs.declared.Run.{Run as RunOf}
use Rattle.runs.specs.declared.Fed.{Fed}
use Rattle.runs.specs.Feeding.{run_of, Bounded, Feeds, Finishes}

-- ---- the end that the last line lacks
last_step : (left : ℕ) (r : Run) → room ≤ left → eqb (length r.text) 0 ≡ false → (taking left r (feed ∷ [])).step ≡ last_line r
unfolding taking
last_step left r h e = go (is_over r) refl
  where
    go : (x : Bool) → is_over r ≡ x → (taking left r (feed ∷ [])).step ≡ last_line r
    go true o = rw (o, le-ltb left room h)
    go false o = rw (o, e, le-ltb left room h) (ap (λ (t : List ℕ). record { out = t; run = (ends r).run }) (append-nil (ends r).out))

last_low : (r : Run) → length (last_line r).out ≤ room
last_low r =
    either (λ (s : Step). length s.out ≤ room) (is_over r || eqb (length r.text) 0) _ _ (λ h. omega arith)
    (λ h. line_low (r.lines + 1) (line_does r.text r.image r.memory).answer)

module _ (r : RunOf) (b b' : List ℕ) (mem mem' : Low) (kept kept' out out₁ : List ℕ) (f : Fed) (long : length kept ≡ 53) (few : r.kept ≤ 53) (o : r.kept ≡ 0 → ⊥)
    (wide : length out ≡ 160) (same : length out₁ ≡ length out) (d : Feeds r b b' mem mem' kept kept' (10 ∷ []) out out₁ f) where
  step : ◌≡◌ {A = Step} (record { out = take f.written out₁; run = run_of f.run kept' b' mem' }) (last_line (run_of r kept b mem))
  step =
      let some : length (take r.kept kept) ≡ r.kept = length-take-le r.kept kept (omega arith) in
      ap (λ (t : Taken). t.step) d.taken
      ∙ last_step (length out) (run_of r kept b mem) (omega arith) (ne_eqb (length (take r.kept kept)) 0 (λ e. o (omega (arith, some))))

  pub finish_room : f.written + 80 ≤ length out₁
  finish_room =
      let l : length (take f.written out₁) ≡ f.written = length-take-le f.written out₁ (omega (arith, d.fits)) in
      omega (arith, ap (λ (s : Step). length s.out) step, last_low (run_of r kept b mem))

  pub finish_line : (out₂ : List ℕ) (n : ℕ) → Puts out₁ out₂ f.written (total_line f.run.totals) n → Finishes r b b' mem mem' kept out₂ n
  finish_line out₂ n p =
      record {
        fits = puts_fits out₁ out₂ f.written (total_line f.run.totals) n p (omega (arith, d.fits));
        text = p.text ∙ ap (λ (s : Step). s.out ++ total_line s.run.totals) step;
        image = ap (λ (s : Step). s.run.image) step;
        memory = ap (λ (s : Step). s.run.memory) step;
      }

pub finish_bounded : (r r' : RunOf) (b b' : List ℕ) (mem mem' : Low) (kept out' : List ℕ) (n : ℕ) → Bounded r r' → length kept ≡ 53
    → Finishes r' b b' mem mem' kept out' n → Finishes r b b' mem mem' kept out' n
finish_bounded r r' b b' mem mem' kept out' n h long f =
    record {
      fits = f.fits;
      text = f.text ∙ ap finished (h.same kept b mem long);
      image = f.image ∙ ap (λ (s : Run). (last_line s).run.image) (h.same kept b mem long);
      memory = f.memory ∙ ap (λ (s : Run). (last_line s).run.memory) (h.same kept b mem long);
    }
