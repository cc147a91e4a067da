-- What a call for many leaves, as the rules' `many` says it: the number returned, and every byte after it.
use Rattle.std.specs.Prelude.{◌≡◌, List, ℕ}
use Rattle.rules.specs.Memory.{Memory}
use Rattle.rules.specs.Calls.{Left}
use Rattle.rules.specs.Many.{many}

pub record TranslatesMany (ps rs rs' b b' : List ℕ) (mem mem' : Memory) (n : ℕ) : Type 0 where
  pub left : ◌≡◌ {A = Left} (record { number = n; answer = rs'; image = b'; memory = mem' }) (many rs b mem ps)
