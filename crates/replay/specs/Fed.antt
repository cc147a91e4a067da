-- A whole piece is taken, if all was written: the run that is left is the one that the rules leave after its bytes.
use Rattle.std.specs.Prelude.{ℕ, ◌≡◌, List}
use Rattle.trace.specs.Does.{Low}
use Rattle.trace.specs.Pieces.{bytes}
use Rattle.runs.specs.declared.Run.{Run}
use Rattle.runs.specs.Feeding.{run_of}

pub record TakesAll (r : Run) (b b' : List ℕ) (mem mem' : Low) (kept kept' piece : List ℕ) (r' : Run) : Type 0 where
  pub run : run_of r' kept' b' mem' ≡ (bytes (run_of r kept b mem) piece).run
