-- The whole output of a whole input.
use Rattle.std.specs.Prelude.{ℕ, ◌+◌, ◌-◌, ◌^◌, List, [], ◌∷◌, ◌++◌, take, replicate}
use Rattle.rules.specs.Answers.{Words}
use Rattle.trace.specs.Text.{lines_of}
use Rattle.trace.specs.Does.{Low, Given, line_does}
use Rattle.trace.specs.Printed.{printed, total_line}
use Rattle.trace.specs.Totals.{totals_of}

-- reading stops after so many lines
abbrev pub most : ℕ
most = 2 ^ 32 - 1

-- the image and 64 KiB of guest memory start as zeros
abbrev pub no_image : List ℕ
no_image = replicate 2048 0

abbrev pub no_memory : Low
no_memory = replicate 65536 0

-- the answers to lines, each given what the one before left
unfoldable pub answers : List (List ℕ) → List ℕ → Low → List Words
answers [] b mem = []
answers (l ∷ ls) b mem = let g : Given = line_does l b mem in g.answer ∷ answers ls g.image g.memory

-- their lines, numbered from n on
unfoldable pub printed_from : ℕ → List Words → List ℕ
printed_from n [] = []
printed_from n (w ∷ ws) = printed n w ++ printed_from (n + 1) ws

abbrev pub answers_to : List ℕ → List Words
answers_to input = answers (take most (lines_of input)) no_image no_memory

abbrev pub output : List ℕ → List ℕ
output input = printed_from 1 (answers_to input) ++ total_line (totals_of (answers_to input))
