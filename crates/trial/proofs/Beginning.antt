-- What a case begins with: the image that three calls leave, and the guest that ten words make. And that a guest with no high has none after a translation.
use Rattle.std.proofs.Common.{◌≡◌, ℕ, List, [], ◌∷◌, length, replicate, refl, ap, ◌∙◌, arith}
use Rattle.rules.specs.Bits.{word_put}
use Rattle.rules.specs.Memory.{both, empty}
use Rattle.rules.specs.Refusals.{Request, start, write_cr3, write_mode}
use Rattle.rules.specs.Calls.{Outcome, call}
use Rattle.rules.specs.declared.Answer.{Answer}
use Rattle.translator.specs.Contract.{Leaves, Translates}
use Rattle.rules.specs.TrialGuest.{guest}
use Rattle.trial.specs.declared.report.Told.{Told}
use Rattle.trial.specs.Trial.{ready, Tells, CameWith}

-- ---- the image
left : (q : Request) (b b' : List ℕ) (a : Answer) → Leaves q b b' a → b' ≡ (call b empty q).image
left q b b' a h = ap (λ (o : Outcome). o.image) (h.outcome empty)

pub readied : (b₁ b₂ b₃ : List ℕ) (a₁ a₂ a₃ : Answer) → Leaves (start 40) (replicate 2048 0) b₁ a₁ → Leaves (write_cr3 0x1000) b₁ b₂ a₂
    → Leaves (write_mode 23) b₂ b₃ a₃ → b₃ ≡ ready
readied b₁ b₂ b₃ a₁ a₂ a₃ h₁ h₂ h₃ =
    left (write_mode 23) b₂ b₃ a₃ h₃
    ∙ ap (λ (b : List ℕ). (call b empty (write_mode 23)).image) (left (write_cr3 0x1000) b₁ b₂ a₂ h₂)
    ∙ ap (λ (b : List ℕ). (call (call b empty (write_cr3 0x1000)).image empty (write_mode 23)).image) (left (start 40) (replicate 2048 0) b₁ a₁ h₁)

-- ---- the guest
-- words written one after the other, each at its place
abbrev written : List ℕ → List (ℕ × ℕ) → List ℕ
written m [] = m
written m (w ∷ ws) = written (word_put m w.0 w.1) ws

-- the guest's tables, as the paper lists their words; the rest is zero
abbrev tables : List (ℕ × ℕ)
tables =
    (0x1000, 0x2007)
    ∷ (0x2000, 0x3007)
    ∷ (0x2008, 0x40000083)
    ∷ (0x3000, 0x4007)
    ∷ (0x3008, 0x600087)
    ∷ (0x4000, 0x5003)
    ∷ (0x4008, 0x5005)
    ∷ (0x4010, 0x8000000000005007)
    ∷ (0x4020, 0x10000005007)
    ∷ (0x4028, 0x5107)
    ∷ []

same_guest : written (replicate 24576 0) tables ≡ guest
same_guest = refl

pub ten_words : (m₁ m₂ m₃ m₄ m₅ m₆ m₇ m₈ m₉ m₁₀ : List ℕ)
    → m₁₀ ≡ word_put m₉ 0x4028 0x5107 → m₉ ≡ word_put m₈ 0x4020 0x10000005007 → m₈ ≡ word_put m₇ 0x4010 0x8000000000005007
    → m₇ ≡ word_put m₆ 0x4008 0x5005 → m₆ ≡ word_put m₅ 0x4000 0x5003 → m₅ ≡ word_put m₄ 0x3008 0x600087
    → m₄ ≡ word_put m₃ 0x3000 0x4007 → m₃ ≡ word_put m₂ 0x2008 0x40000083 → m₂ ≡ word_put m₁ 0x2000 0x3007
    → m₁ ≡ word_put (replicate 24576 0) 0x1000 0x2007
    → m₁₀ ≡ guest
ten_words m₁ m₂ m₃ m₄ m₅ m₆ m₇ m₈ m₉ m₁₀ h₁₀ h₉ h₈ h₇ h₆ h₅ h₄ h₃ h₂ h₁ = rw (h₁₀, h₉, h₈, h₇, h₆, h₅, h₄, h₃, h₂, h₁) same_guest

-- ---- a translation
none : (l : List ℕ) → length l ≡ 0 → l ≡ []
none [] h = refl
none (x ∷ l) h = absurd (omega arith)

pub came : (q : Request) (b b' low low' high high' : List ℕ) (a : Answer) (o : Told) → high ≡ [] → length high' ≡ 0
    → Translates q b b' (both low high) (both low' high') a → Tells a o → CameWith q b b' low low' o
came q b b' low low' high high' a o e l t s =
    record { answer = a; leaves = record { outcome = rw (e, none high' l) at t.outcome }; tells = s }
