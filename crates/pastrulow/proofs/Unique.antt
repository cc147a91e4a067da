-- The contract admits one outcome: two programs that keep it return the same number and leave the same bytes. Of translate and of a call for many
-- `Unique` of `direct` and of `many` say it.
use mathlib.Core.Path.{◌≡◌}
use mathlib.Core.List.{List}
use Prim.Native.Nat.{ℕ}
use Rattle.rules.specs.Memory.{Memory}
use Rattle.rules.specs.Refusals.{Request}
use Rattle.rules.specs.Calls.{Left}
use Rattle.rules.proofs.CallLaws.{one_left}
use Rattle.pastrulow.specs.Door.{Passes}

pub passes_one : (q : Request) (r r₁ r₂ b b₁ b₂ : List ℕ) (n₁ n₂ : ℕ) → Passes q r r₁ b b₁ n₁ → Passes q r r₂ b b₂ n₂ → (mem : Memory)
    → ◌≡◌ {A = Left} (record { number = n₁; answer = r₁; image = b₁; memory = mem }) (record { number = n₂; answer = r₂; image = b₂; memory = mem })
passes_one q r r₁ r₂ b b₁ b₂ n₁ n₂ h g mem = one_left r b mem q _ _ (h.left mem) (g.left mem)
