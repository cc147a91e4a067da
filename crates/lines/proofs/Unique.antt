-- The contract of a line admits one outcome. Nothing is said of lent bytes behind what is printed.
use Prim.Native.Nat.{ℕ}
use mathlib.Core.Path.{◌≡◌, sym, ◌∙◌}
use mathlib.Core.List.{List}
use lib.ListN.{take}
use Rattle.lines.specs.Line.{LineLeft, Lines}
use Rattle.trace.specs.Does.{Low}

pub lines_one : (b b₁ b₂ : List ℕ) (mem mem₁ mem₂ : Low) (out out₁ out₂ text : List ℕ) (number : ℕ) (r r₁ r₂ : List ℕ) (n₁ n₂ : ℕ)
    → Lines text number b b₁ mem mem₁ r r₁ out out₁ n₁ → Lines text number b b₂ mem mem₂ r r₂ out out₂ n₂
    → (n₁ ≡ n₂)
    × ◌≡◌ {A = LineLeft} (record { text = take n₁ out₁; answer = r₁; image = b₁; memory = mem₁ }) (record { text = take n₂ out₂; answer = r₂; image = b₂; memory = mem₂ })
lines_one b b₁ b₂ mem mem₁ mem₂ out out₁ out₂ text number r r₁ r₂ n₁ n₂ h g = (h.count ∙ sym g.count, h.outcome ∙ sym g.outcome)
