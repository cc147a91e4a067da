-- A piece is fed part by part: what the rules leave after the rest is what they leave after the whole. A part is empty only after the last line that is read, when the rest
-- changes nothing.
use Prim.Native.Nat.{ℕ, ◌+◌, ◌-◌, ◌≤◌, ◌<◌}
use mathlib.Core.Path.{◌≡◌, refl, ap, sym, ◌∙◌, subst}
use mathlib.Core.Bool.{Bool, true, false}
use mathlib.Core.List.{List}
use native.Mathlib.Omega.{arith}
use lib.ListN.{length, take, drop, take-append-drop, length-drop, drop_of_length-le}
use lib.Seq.{drop-drop, take_all}
use Rattle.trace.specs.Does.{Low}
use Rattle.trace.specs.Pieces.{Run, Step, is_over, bytes, Taken, taking}
use Rattle.trace.proofs.RunLaws.{bytes_append, over}
use Rattle.trace.proofs.Taking.{takes}
use Rattle.runs.specs.declared.Run.{Run as RunOf}
use Rattle.runs.specs.declared.Fed.{Fed}
use Rattle.runs.specs.Feeding.{run_of, Feeds}
use Rattle.replay.specs.Fed.{TakesAll}

pub record Feeding (r₀ : RunOf) (b₀ : List ℕ) (mem₀ : Low) (kept₀ piece out₀ : List ℕ) (b : List ℕ) (mem : Low) (kept out : List ℕ) (r : RunOf) (at : ℕ) : Type 0 where
  pub same_image : length b ≡ length b₀
  pub same_memory : length mem ≡ length mem₀
  pub same_out : length out ≡ length out₀
  pub roomy : 80 ≤ length out
  pub high : at ≤ length piece
  pub rest : (bytes (run_of r kept b mem) (drop at piece)).run ≡ (bytes (run_of r₀ kept₀ b₀ mem₀) piece).run

pub feeding_none : (r : RunOf) (b : List ℕ) (mem : Low) (kept piece out : List ℕ) → 80 ≤ length out → Feeding r b mem kept piece out b mem kept out r 0
feeding_none r b mem kept piece out h =
    record { same_image = refl; same_memory = refl; same_out = refl; roomy = h; high = omega arith; rest = refl }

-- the bytes after those that are taken are what is left
after_part : (left : ℕ) (r : Run) (p : List ℕ) → (bytes (taking left r p).step.run (drop (taking left r p).taken p)).run ≡ (bytes r p).run
after_part left r p =
    ap (λ (s : Step). (bytes s.run (drop (taking left r p).taken p)).run) (takes left r p).start
    ∙ ap (λ (s : Step). s.run) (sym (bytes_append r (take (taking left r p).taken p) (drop (taking left r p).taken p)))
    ∙ ap (λ (l : List ℕ). (bytes r l).run) (take-append-drop (taking left r p).taken p)

-- a run that takes nothing of some bytes is over
none_taken : (left : ℕ) (r : Run) (p : List ℕ) → 80 ≤ left → 0 < length p → (taking left r p).taken ≡ 0 → is_over r ≡ true
none_taken left r p h some e = go (is_over r) refl
  where
    go : (x : Bool) → is_over r ≡ x → is_over r ≡ true
    go true t = t
    go false t = absurd (omega (arith, (takes left r p).some h t some, e))

-- and is left as it was
stays : (left : ℕ) (r : Run) (p : List ℕ) → (taking left r p).taken ≡ 0 → (taking left r p).step.run ≡ r
unfolding bytes
stays left r p e = ap (λ (s : Step). s.run) (takes left r p).start ∙ rw e

module _ (r₀ : RunOf) (b₀ : List ℕ) (mem₀ : Low) (kept₀ piece out₀ : List ℕ) (b : List ℕ) (mem : Low) (kept out : List ℕ) (r : RunOf) (at : ℕ)
    (h : Feeding r₀ b₀ mem₀ kept₀ piece out₀ b mem kept out r at) (b' : List ℕ) (mem' : Low) (kept' out' : List ℕ) (f : Fed) (some : at < length piece)
    (lent : Feeds r b b' mem mem' kept kept' (take (length piece - at) (drop at piece)) out out' f) where
  -- what is lent from a place on is all that follows
  d : Feeds r b b' mem mem' kept kept' (drop at piece) out out' f
  d = subst (λ (p : List ℕ). Feeds r b b' mem mem' kept kept' p out out' f) (take_all (length piece - at) (drop at piece) (omega (arith, length-drop at piece))) lent

  part_rest : (bytes (run_of f.run kept' b' mem') (drop f.taken (drop at piece))).run ≡ (bytes (run_of r₀ kept₀ b₀ mem₀) piece).run
  part_rest =
      ap (λ (t : Taken). (bytes t.step.run (drop t.taken (drop at piece))).run) d.taken
      ∙ after_part (length out) (run_of r kept b mem) (drop at piece)
      ∙ h.rest

  pub feeding_more : length b' ≡ length b → length mem' ≡ length mem → length out' ≡ length out
      → Feeding r₀ b₀ mem₀ kept₀ piece out₀ b' mem' kept' out' f.run (at + f.taken)
  feeding_more lb lm lo =
      record {
        same_image = lb ∙ h.same_image;
        same_memory = lm ∙ h.same_memory;
        same_out = lo ∙ h.same_out;
        roomy = omega (arith, h.roomy);
        high = omega (arith, d.within, length-drop at piece);
        rest = rw (← drop-drop f.taken at piece) part_rest;
      }

  pub feeding_over : f.taken ≡ 0 → TakesAll r₀ b₀ b' mem₀ mem' kept₀ kept' piece f.run
  feeding_over e =
      let none : (taking (length out) (run_of r kept b mem) (drop at piece)).taken ≡ 0 = ap (λ (t : Taken). t.taken) (sym d.taken) ∙ e in
      let ended : is_over (run_of r kept b mem) ≡ true = none_taken (length out) (run_of r kept b mem) (drop at piece) h.roomy (omega (arith, length-drop at piece)) none in
      let same : run_of f.run kept' b' mem' ≡ run_of r kept b mem = ap (λ (t : Taken). t.step.run) d.taken ∙ stays (length out) (run_of r kept b mem) (drop at piece) none in
      record { run = same ∙ ap (λ (s : Step). s.run) (sym (over (run_of r kept b mem) (drop at piece) ended)) ∙ h.rest }

pub feeding_all : (r₀ : RunOf) (b₀ : List ℕ) (mem₀ : Low) (kept₀ piece out₀ : List ℕ) (b : List ℕ) (mem : Low) (kept out : List ℕ) (r : RunOf) (at : ℕ)
    → Feeding r₀ b₀ mem₀ kept₀ piece out₀ b mem kept out r at → length piece ≤ at → TakesAll r₀ b₀ b mem₀ mem kept₀ kept piece r
unfolding bytes
feeding_all r₀ b₀ mem₀ kept₀ piece out₀ b mem kept out r at h e = record { run = rw (drop_of_length-le piece e) at h.rest }
