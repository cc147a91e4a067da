-- What is claimed of a run over an input in pieces: wherever the input is cut, what is printed is the output of the whole.
use Rattle.std.specs.Prelude.{◌≡◌, ℕ, None, ◌-◌, ◌<◌, ◌≤◌, true, false, List, [], ◌∷◌, ◌++◌, length, take}
use mathlib.Core.List.{flatten}
use Rattle.rules.specs.Answers.{Words}
use Rattle.trace.specs.Orders.{order_of}
use Rattle.trace.specs.Totals.{totals_of, counted, no_totals}
use Rattle.trace.specs.Trace.{most, output}
use Rattle.trace.specs.Pieces.{Run, begun, enough, is_over, Step, after, bytes, finished, room, Taken, is_full, taking}
use Rattle.trace.specs.declared.Totals.{Totals}

-- ---- lines
-- no line of more than 52 bytes is good
abbrev pub Short : Type 0
Short = (l : List ℕ) → 52 < length l → order_of l ≡ None

-- so what a run keeps of a line says what the line asks for
abbrev pub Enough : Type 0
Enough = (l : List ℕ) → order_of (take enough l) ≡ order_of l

-- ---- totals
-- the totals after each of these answers in turn
abbrev pub counted_all : Totals → List Words → Totals
counted_all t [] = t
counted_all t (w ∷ ws) = counted_all (counted t w) ws

-- kept in words of 64 bits, they are the counts in the list of answers
abbrev pub AreCounts : Type 0
AreCounts = (ws : List Words) → length ws ≤ most → counted_all no_totals ws ≡ totals_of ws

-- ---- the output
-- byte by byte, what is printed is the output of the whole
abbrev pub Whole : Type 0
Whole = (input : List ℕ) → (bytes begun input).out ++ finished (bytes begun input).run ≡ output input

-- pieces, each from the run that the piece before left
abbrev pub pieces : Run → List (List ℕ) → Step
pieces r [] = record { out = []; run = r }
pieces r (p ∷ ps) = after (bytes r p).out (pieces (bytes r p).run ps)

-- and so it is for an input that is cut into any pieces, of any length
abbrev pub InPieces : Type 0
InPieces = (ps : List (List ℕ)) → (pieces begun ps).out ++ finished (pieces begun ps).run ≡ output (flatten ps)

-- ---- into lent bytes
-- what one call takes of a piece, with so much room: its start, and no less than the room lets it
pub record Part (left : ℕ) (r : Run) (p : List ℕ) (t : Taken) : Type 0 where
  -- it is a run over that start
  pub start : t.step ≡ bytes r (take t.taken p)
  pub within : t.taken ≤ length p
  -- with room for a line it takes a byte, so calls in turn come to the end
  pub some : room ≤ left → is_over r ≡ false → 0 < length p → 0 < t.taken
  -- it stops before the piece's end only without room for a line, or after the last line that is read
  pub all : t.taken < length p → is_full (left - length t.step.out) t.step.run ≡ true

abbrev pub Takes : Type 0
Takes = (left : ℕ) (r : Run) (p : List ℕ) → Part left r p (taking left r p)

-- no line needs more than the room that is asked for, so what is printed fits
abbrev pub Fits : Type 0
Fits = (left : ℕ) (r : Run) (p : List ℕ) → length (taking left r p).step.out ≤ left

-- after the last line that is read nothing counts, so a reader may stop there
abbrev pub Over : Type 0
Over = (r : Run) (p : List ℕ) → is_over r ≡ true → bytes r p ≡ record { out = []; run = r }

-- ---- portions, one after the other
-- a piece, and how many bytes are lent for what it prints
pub record Portion : Type 0 where
  pub piece : List ℕ
  pub lent : ℕ

-- what was taken of the pieces in all, what was printed, and the run that is left
pub record Portions : Type 0 where
  pub took : List ℕ
  pub out : List ℕ
  pub run : Run

-- each from the run that the one before left
abbrev pub portions : Run → List Portion → Portions
portions r [] = record { took = []; out = []; run = r }
portions r (p ∷ ps) =
    let t : Taken = taking p.lent r p.piece in
    let rest : Portions = portions t.step.run ps in
    record { took = take t.taken p.piece ++ rest.took; out = t.step.out ++ rest.out; run = rest.run }

-- whatever the pieces and the room are, what is printed in all is the output of all that was taken
abbrev pub InPortions : Type 0
InPortions = (ps : List Portion) → (portions begun ps).out ++ finished (portions begun ps).run ≡ output (portions begun ps).took

-- and of an input of which more follows, once the last line was read that is
abbrev pub InPortionsOver : Type 0
InPortionsOver = (ps : List Portion) (more : List ℕ) → is_over (portions begun ps).run ≡ true
    → (portions begun ps).out ++ finished (portions begun ps).run ≡ output ((portions begun ps).took ++ more)
