-- A piece of the input as code takes it: the bytes of a line at a time.
use Rattle.std.specs.Prelude.{ℕ, ◌+◌, ◌-◌, ◌≤◌, ◌<◌, ◌≡◌, Bool, cond, ◌&&◌, List, ◌++◌, eqb, leb, ltb, length, take, drop}
use Rattle.trace.specs.Does.{Low}
use Rattle.trace.specs.Totals.{no_totals}
use Rattle.trace.specs.Trace.{most}
use Rattle.trace.specs.Pieces.{Run, after, enough, ends, last_line, finished, room, Taken, taking}
use Rattle.printing.specs.Puts.{Puts}
use Rattle.runs.specs.declared.Run.{Run as RunOf}
use Rattle.runs.specs.declared.Ended.{Ended}
use Rattle.runs.specs.declared.Fed.{Fed}

-- what is taken in all where n bytes were taken before, of which o was printed
abbrev pub ahead : List ℕ → ℕ → Taken → Taken
ahead o n t = record { step = after o t.step; taken = t.taken + n }

-- ---- a line's text, of which the start is kept
-- what is kept, with these bytes behind it, as far as there is room
pub record Keeps (kept : List ℕ) (count : ℕ) (part kept' : List ℕ) (n : ℕ) : Type 0 where
  pub low : count ≤ n
  pub few : n ≤ enough
  pub text : take n kept' ≡ take enough (take count kept ++ part)

-- the rest of a line that ends: where no start is kept, nothing is
pub record Gathers (kept : List ℕ) (count : ℕ) (part kept' : List ℕ) (n : ℕ) : Type 0 where
  pub none : count ≡ 0 → n ≡ 0
  pub some : 0 < count → Keeps kept count part kept' n

abbrev pub text_of : List ℕ → ℕ → List ℕ → List ℕ
text_of kept n part = cond (eqb n 0) part (take n kept)

-- ---- a run as code has it: lent bytes and numbers
abbrev pub run_with : RunOf → List ℕ → List ℕ → Low → Run
run_with r text b mem = record { text = text; lines = r.lines; totals = r.totals; image = b; memory = mem }

abbrev pub run_of : RunOf → List ℕ → List ℕ → Low → Run
run_of r kept = run_with r (take r.kept kept)

-- before the first line
abbrev pub begins : RunOf
begins = record { kept = 0; lines = 0; totals = no_totals }

-- a line of this text ends: its answer is printed from a place on, and the run goes on after it
pub record Ends (r : RunOf) (b b' : List ℕ) (mem mem' : Low) (text out out' : List ℕ) (at : ℕ) (e : Ended) : Type 0 where
  pub puts : Puts out out' at (ends (run_with r text b mem)).out e.written
  pub fresh : e.run.kept ≡ 0
  pub run : (kept' : List ℕ) → run_of e.run kept' b' mem' ≡ (ends (run_with r text b mem)).run

-- ---- a turn: the bytes of a piece up to a line's end, or its own
pub record Ready (f : Fed) (kept piece out : List ℕ) : Type 0 where
  pub long : length kept ≡ enough
  pub few : f.run.kept ≤ enough
  pub some : f.taken < length piece
  pub lines : f.run.lines < most
  pub fits : f.written + room ≤ length out

-- something is taken, and what is taken in all is what this turn takes and then the rest
pub record Turns (f : Fed) (b b' : List ℕ) (mem mem' : Low) (kept kept' piece out out' : List ℕ) (g : Fed) : Type 0 where
  pub said : List ℕ
  pub puts : Puts out out' f.written said g.written
  pub few : g.run.kept ≤ enough
  pub more : f.taken < g.taken
  pub high : g.taken ≤ length piece
  pub takes : taking (length out - f.written) (run_of f.run kept b mem) (drop f.taken piece)
      ≡ ahead said (g.taken - f.taken) (taking (length out - g.written) (run_of g.run kept' b' mem') (drop g.taken piece))

-- another turn can be made
abbrev pub goes_on : Fed → List ℕ → List ℕ → Bool
goes_on f piece out = ltb f.taken (length piece) && leb room (length out - f.written) && ltb f.run.lines most

-- ---- a whole piece, for any lent bytes
-- the same run, whose number of bytes that are kept is no more than there are
pub record Bounded (r r' : RunOf) : Type 0 where
  pub few : r'.kept ≤ enough
  pub same : (kept b : List ℕ) (mem : Low) → length kept ≡ enough → run_of r' kept b mem ≡ run_of r kept b mem

pub record Feeds (r : RunOf) (b b' : List ℕ) (mem mem' : Low) (kept kept' piece out out' : List ℕ) (f : Fed) : Type 0 where
  pub within : f.taken ≤ length piece
  pub fits : f.written ≤ length out
  pub taken : ◌≡◌ {A = Taken} (record { step = record { out = take f.written out'; run = run_of f.run kept' b' mem' }; taken = f.taken })
      (taking (length out) (run_of r kept b mem) piece)

-- ---- the input's end
pub record Finishes (r : RunOf) (b b' : List ℕ) (mem mem' : Low) (kept out' : List ℕ) (n : ℕ) : Type 0 where
  pub fits : n ≤ length out'
  pub text : take n out' ≡ finished (run_of r kept b mem)
  pub image : b' ≡ (last_line (run_of r kept b mem)).run.image
  pub memory : mem' ≡ (last_line (run_of r kept b mem)).run.memory
