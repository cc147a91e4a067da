-- What the calls leave, as the rules' call says it.
use Rattle.std.specs.Prelude.{◌≡◌, List, ℕ}
use Rattle.rules.specs.Memory.{Memory}
use Rattle.rules.specs.Refusals.{Request}
use Rattle.rules.specs.Calls.{Outcome, call}
use Rattle.rules.specs.declared.Answer.{Answer}

-- a call that is lent no guest memory, whatever guest memory there is
pub record Leaves (q : Request) (b b' : List ℕ) (r : Answer) : Type 0 where
  pub outcome : (mem : Memory) → ◌≡◌ {A = Outcome} (record { answer = r; image = b'; memory = mem }) (call b mem q)

-- what translate leaves
pub record Translates (q : Request) (b b' : List ℕ) (mem mem' : Memory) (r : Answer) : Type 0 where
  pub outcome : ◌≡◌ {A = Outcome} (record { answer = r; image = b'; memory = mem' }) (call b mem q)
