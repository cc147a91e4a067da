-- The contract admits one outcome: two programs that keep it return the same number and leave the same bytes.
use mathlib.Core.Path.{◌≡◌}
use mathlib.Core.List.{List}
use Prim.Native.Nat.{ℕ}
use Rattle.rules.specs.Memory.{Memory}
use Rattle.rules.specs.Calls.{Left}
use Rattle.rules.proofs.ManyLaws.{one_many}
use Rattle.many.specs.Contract.{TranslatesMany}

pub translates_many_one : (ps r r₁ r₂ b b₁ b₂ : List ℕ) (mem mem₁ mem₂ : Memory) (n₁ n₂ : ℕ) → TranslatesMany ps r r₁ b b₁ mem mem₁ n₁
    → TranslatesMany ps r r₂ b b₂ mem mem₂ n₂
    → ◌≡◌ {A = Left} (record { number = n₁; answer = r₁; image = b₁; memory = mem₁ }) (record { number = n₂; answer = r₂; image = b₂; memory = mem₂ })
translates_many_one ps r r₁ r₂ b b₁ b₂ mem mem₁ mem₂ n₁ n₂ h g = one_many r b mem ps _ _ h.left g.left
