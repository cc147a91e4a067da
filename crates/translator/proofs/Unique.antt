-- A contract admits one outcome: two programs that keep it leave the same answer, the same bytes and the same memory.
use mathlib.Core.Path.{◌≡◌}
use mathlib.Core.List.{List}
use Prim.Native.Nat.{ℕ}
use Rattle.rules.specs.Memory.{Memory}
use Rattle.rules.specs.Refusals.{Request}
use Rattle.rules.specs.Calls.{Outcome}
use Rattle.rules.specs.declared.Answer.{Answer}
use Rattle.rules.proofs.CallLaws.{one_outcome}
use Rattle.translator.specs.Contract.{Leaves, Translates}

pub leaves_one : (q : Request) (b b₁ b₂ : List ℕ) (r₁ r₂ : Answer) → Leaves q b b₁ r₁ → Leaves q b b₂ r₂ → (mem : Memory)
    → ◌≡◌ {A = Outcome} (record { answer = r₁; image = b₁; memory = mem }) (record { answer = r₂; image = b₂; memory = mem })
leaves_one q b b₁ b₂ r₁ r₂ h g mem = one_outcome b mem q _ _ (h.outcome mem) (g.outcome mem)

pub translates_one : (q : Request) (b b₁ b₂ : List ℕ) (mem mem₁ mem₂ : Memory) (r₁ r₂ : Answer) → Translates q b b₁ mem mem₁ r₁ → Translates q b b₂ mem mem₂ r₂
    → ◌≡◌ {A = Outcome} (record { answer = r₁; image = b₁; memory = mem₁ }) (record { answer = r₂; image = b₂; memory = mem₂ })
translates_one q b b₁ b₂ mem mem₁ mem₂ r₁ r₂ h g = one_outcome b mem q _ _ h.outcome g.outcome
