-- A contract admits one outcome: two programs that keep it return the same number and leave the same bytes.
use Prim.Native.Nat.{ℕ}
use mathlib.Core.Path.{◌≡◌, sym, ◌∙◌}
use mathlib.Core.List.{List}
use Rattle.journal.specs.Calls.{Left, Clears, Reports}

module _ (b b₁ b₂ : List ℕ) (n₁ n₂ : ℕ) where
  pub clears_one : Clears b b₁ n₁ → Clears b b₂ n₂ → ◌≡◌ {A = Left} (record { number = n₁; journal = b₁ }) (record { number = n₂; journal = b₂ })
  clears_one h g = h.left ∙ sym g.left

  pub reports_one : (address code root : ℕ) → Reports address code root b b₁ n₁ → Reports address code root b b₂ n₂
      → ◌≡◌ {A = Left} (record { number = n₁; journal = b₁ }) (record { number = n₂; journal = b₂ })
  reports_one address code root h g = h.left ∙ sym g.left
