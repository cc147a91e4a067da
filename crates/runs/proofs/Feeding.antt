-- A piece is fed turn by turn: what is taken so far, with what the rules take of the rest, is the whole. At the end nothing more is taken: no byte is left, or the
-- room is short, or the last line was read.
use Prim.Native.Nat.{ℕ, ◌-◌, ◌≤◌}
use mathlib.Core.Path.{◌≡◌, refl, ap, sym, ◌∙◌}
use mathlib.Core.Bool.{Bool, true, false, true≢false, ◌&&◌, or-true}
use mathlib.Core.List.{List, [], ◌∷◌, ◌++◌, append-nil}
use native.Mathlib.Omega.{arith}
use native.Mathlib.Nat.{zero-add}
use lib.Dec.{ltb, leb}
use lib.ListN.{length, take, drop, drop_of_length-le}
use borrow.Author.Tests.{ltb-false, leb-false, lt-ltb, le-leb}
use Rattle.trace.specs.Does.{Low}
use Rattle.trace.specs.Trace.{most}
use Rattle.trace.specs.Pieces.{Run, enough, room, Taken, is_full, taking}
use Rattle.runs.specs.declared.Run.{Run as RunOf}
use Rattle.runs.specs.declared.Fed.{Fed}
use Rattle.runs.specs.Feeding.{ahead, run_of, goes_on, Feeds}

-- ---- nothing more is taken
abbrev ceased : Run → Taken
ceased r = record { step = record { out = []; run = r }; taken = 0 }

full_stops : (left : ℕ) (r : Run) (bs : List ℕ) → is_full left r ≡ true → taking left r bs ≡ ceased r
unfolding taking
full_stops left r [] h = refl
full_stops left r (b ∷ bs) h = rw h

none_left : (left : ℕ) (r : Run) (bs : List ℕ) → bs ≡ [] → taking left r bs ≡ ceased r
unfolding taking
none_left left r bs h = rw h

stops : (f : Fed) (b : List ℕ) (mem : Low) (kept piece out : List ℕ) → goes_on f piece out ≡ false
    → taking (length out - f.written) (run_of f.run kept b mem) (drop f.taken piece) ≡ ceased (run_of f.run kept b mem)
stops f b mem kept piece out = go _ _ _ refl refl refl
  where
    go : (x y z : Bool) → ltb f.taken (length piece) ≡ x → leb room (length out - f.written) ≡ y → ltb f.run.lines most ≡ z → (x && y && z) ≡ false
        → taking (length out - f.written) (run_of f.run kept b mem) (drop f.taken piece) ≡ ceased (run_of f.run kept b mem)
    go false y z p q s h = none_left _ (run_of f.run kept b mem) _ (drop_of_length-le piece (ltb-false _ _ p))
    go true false z p q s h = full_stops _ (run_of f.run kept b mem) _ (rw (lt-ltb _ room (leb-false _ _ q)))
    go true true false p q s h = full_stops _ (run_of f.run kept b mem) _ (rw (le-leb most _ (ltb-false _ _ s)) (or-true (ltb (length out - f.written) room)))
    go true true true p q s h = absurd (true≢false h)

-- ---- the turns that were made
pub record Feeding (r : RunOf) (b₀ : List ℕ) (mem₀ : Low) (kept₀ piece out₀ : List ℕ) (b : List ℕ) (mem : Low) (kept out : List ℕ) (f : Fed) : Type 0 where
  pub same_image : length b ≡ length b₀
  pub same_memory : length mem ≡ length mem₀
  pub long : length kept ≡ enough
  pub same_out : length out ≡ length out₀
  pub few : f.run.kept ≤ enough
  pub within : f.taken ≤ length piece
  pub fits : f.written ≤ length out
  pub whole : ahead (take f.written out) f.taken (taking (length out - f.written) (run_of f.run kept b mem) (drop f.taken piece))
      ≡ taking (length out₀) (run_of r kept₀ b₀ mem₀) piece

module _ (r : RunOf) (b₀ : List ℕ) (mem₀ : Low) (kept₀ piece out₀ : List ℕ) (b : List ℕ) (mem : Low) (kept out : List ℕ) (f : Fed)
    (h : Feeding r b₀ mem₀ kept₀ piece out₀ b mem kept out f) where
  pub feeding_all : (x : Bool) → x ≡ goes_on f piece out → x ≡ false → Feeds r b₀ b mem₀ mem kept₀ kept piece out₀ out f
  feeding_all x e t =
      record {
        within = h.within;
        fits = omega (arith, h.fits, h.same_out);
        taken =
            ap (λ (o : List ℕ). record { step = record { out = o; run = run_of f.run kept b mem }; taken = f.taken }) (sym (append-nil (take f.written out)))
            ∙ ap (λ (n : ℕ). record { step = record { out = take f.written out ++ []; run = run_of f.run kept b mem }; taken = n }) (sym (zero-add f.taken))
            ∙ ap (ahead (take f.written out) f.taken) (sym (stops f b mem kept piece out (sym e ∙ t)))
            ∙ h.whole;
      }
