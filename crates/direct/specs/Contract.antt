-- What translate into a record leaves, as the rules' door says it: the number returned, and every byte after it.
use Rattle.std.specs.Prelude.{◌≡◌, List, ℕ}
use Rattle.rules.specs.Memory.{Memory}
use Rattle.rules.specs.Refusals.{Request}
use Rattle.rules.specs.Calls.{Left, call, written, door}

pub record TranslatesInto (q : Request) (r r' b b' : List ℕ) (mem mem' : Memory) (n : ℕ) : Type 0 where
  pub left : ◌≡◌ {A = Left} (record { number = n; answer = r'; image = b'; memory = mem' }) (door r b mem q)

-- the same where there is room for a record
pub record IntoRecord (q : Request) (r' b b' : List ℕ) (mem mem' : Memory) (n : ℕ) : Type 0 where
  pub left : ◌≡◌ {A = Left} (record { number = n; answer = r'; image = b'; memory = mem' }) (written (call b mem q))
