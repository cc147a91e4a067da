-- The lines that are printed.
use Rattle.std.specs.Prelude.{ℕ, zero, suc, List, [], ◌∷◌, ◌++◌}
use Rattle.rules.specs.Answers.{Words}
use Rattle.trace.specs.Text.{tab, feed}
use Rattle.trace.specs.Numbers.{hex_of}
use Rattle.trace.specs.declared.Totals.{Totals}

-- fields parted by tabs, with the line's end
abbrev pub joined : List ℕ → List (List ℕ) → List ℕ
joined f [] = f ++ (feed ∷ [])
joined f (g ∷ gs) = f ++ (tab ∷ joined g gs)

-- the word for a kind of answer: address, fault, refused, done, bad
abbrev pub word_for : ℕ → List ℕ
word_for zero = 97 ∷ 100 ∷ 100 ∷ 114 ∷ 101 ∷ 115 ∷ 115 ∷ []
word_for (suc zero) = 102 ∷ 97 ∷ 117 ∷ 108 ∷ 116 ∷ []
word_for (suc (suc zero)) = 114 ∷ 101 ∷ 102 ∷ 117 ∷ 115 ∷ 101 ∷ 100 ∷ []
word_for (suc (suc (suc zero))) = 100 ∷ 111 ∷ 110 ∷ 101 ∷ []
word_for (suc (suc (suc (suc n)))) = 98 ∷ 97 ∷ 100 ∷ []

-- the line's number, the word, the value, the page size, the entries read
abbrev pub printed : ℕ → Words → List ℕ
printed n w = joined (hex_of n) (word_for w.kind ∷ hex_of w.value ∷ hex_of w.size ∷ hex_of w.read ∷ [])

-- "total", and the four
abbrev pub total_line : Totals → List ℕ
total_line t =
    joined (116 ∷ 111 ∷ 116 ∷ 97 ∷ 108 ∷ [])
    (hex_of t.addresses ∷ hex_of t.hits ∷ hex_of t.faults ∷ hex_of t.refused ∷ [])
