-- What the host's calls that answer in one record leave, as the rules' door says it: the number returned, the answer bytes and the image. What translate and a call for many leave is
-- said by the contracts of `direct` and of `many`.
use Rattle.std.specs.Prelude.{◌≡◌, List, ℕ}
use Rattle.rules.specs.Memory.{Memory}
use Rattle.rules.specs.Refusals.{Request}
use Rattle.rules.specs.Calls.{Left, door}

-- a call that is lent no guest memory, whatever guest memory there is
pub record Passes (q : Request) (r r' b b' : List ℕ) (n : ℕ) : Type 0 where
  pub left : (mem : Memory) → ◌≡◌ {A = Left} (record { number = n; answer = r'; image = b'; memory = mem }) (door r b mem q)

-- the version of the calls, raised whenever the parameters or the meaning of one change
abbrev pub version : ℕ
version = 5
