-- What is printed into lent bytes fits. A number has at most 16 digits and a word at most 7 letters, so a line at most 76 bytes; a byte of the input
-- ends at most one line, and none is taken where a line might not fit.
use Rattle.std.proofs.Common.{◌≡◌, ℕ, zero, suc, ◌+◌, ◌-◌, ◌≤◌, eqb, ltb, Bool, true, false, cond, List, [], ◌∷◌, length, refl, ap, arith, length-append, ltb-false}
use lib.ListN.{length-map}
use Rattle.rules.specs.Answers.{Words}
use Rattle.rules.proofs.BoolLaws.{either, or_left}
use Rattle.trace.specs.Text.{tab, feed}
use Rattle.trace.specs.Numbers.{digits, trimmed, byte_of, hex_of}
use Rattle.trace.specs.Does.{line_does}
use Rattle.trace.specs.Printed.{joined, word_for, printed}
use Rattle.trace.specs.Pieces.{Run, Step, byte, is_over, room, Taken, is_full, onward, taking}
use Rattle.trace.specs.Claims.{Fits}
use Rattle.trace.proofs.LineLaws.{spread}

-- ---- a number
digits_length : (n x : ℕ) → length (digits n x) ≡ n
unfolding digits
digits_length zero x = refl
digits_length (suc n) x = ap suc (digits_length n x)

trimmed_low : (ds : List ℕ) → length (trimmed ds) ≤ length ds
unfolding trimmed
trimmed_low [] = omega arith
trimmed_low (d ∷ []) = omega arith
trimmed_low (zero ∷ e ∷ ds) = omega (arith, trimmed_low (e ∷ ds))
trimmed_low (suc d ∷ e ∷ ds) = omega arith

pub hex_low : (x : ℕ) → length (hex_of x) ≤ 16
hex_low x = omega (arith, length-map (trimmed (digits 16 x)) byte_of, trimmed_low (digits 16 x), digits_length 16 x)

-- ---- a line
word_low : (k : ℕ) → length (word_for k) ≤ 7
word_low zero = omega arith
word_low (suc zero) = omega arith
word_low (suc (suc zero)) = omega arith
word_low (suc (suc (suc zero))) = omega arith
word_low (suc (suc (suc (suc k)))) = omega arith

joined_length : (f : List ℕ) (gs : List (List ℕ)) → length (joined f gs) ≡ spread (f ∷ gs)
joined_length f [] = omega (arith, length-append f (feed ∷ []))
joined_length f (g ∷ gs) = omega (arith, length-append f (tab ∷ joined g gs), joined_length g gs)

pub line_low : (n : ℕ) (w : Words) → length (printed n w) ≤ room
line_low n w =
    omega (
      arith,
      joined_length (hex_of n) (word_for w.kind ∷ hex_of w.value ∷ hex_of w.size ∷ hex_of w.read ∷ []),
      hex_low n,
      word_low w.kind,
      hex_low w.value,
      hex_low w.size,
      hex_low w.read,
    )

-- ---- what is taken
byte_low : (r : Run) (b : ℕ) → length (byte r b).out ≤ room
byte_low r b =
    either Low (is_over r) _ _ (λ h. omega arith)
    (λ h. either Low (eqb b feed) _ _ (λ e. line_low (r.lines + 1) (line_does r.text r.image r.memory).answer) (λ e. omega arith))
  where
    Low : Step → Type 0
    Low s = length s.out ≤ room

-- either nothing, or a step and what is taken after it
chosen_low : (left : ℕ) (f : Bool) (r : Run) (s : Step) (t : Taken) → (f ≡ false → room ≤ left) → length s.out ≤ room
    → length t.step.out ≤ left - length s.out
    → length (cond f (record { step = record { out = []; run = r }; taken = 0 }) (onward s t)).step.out ≤ left
chosen_low left true r s t e l h = omega arith
chosen_low left false r s t e l h = let k : room ≤ left = e refl in rw (length-append s.out t.step.out) (omega arith)

fits_more : (left : ℕ) (r : Run) (b : ℕ) (bs : List ℕ) → ((k : ℕ) (q : Run) → length (taking k q bs).step.out ≤ k)
    → length (taking left r (b ∷ bs)).step.out ≤ left
unfolding taking
fits_more left r b bs ih =
    let s : Step = byte r b in
    chosen_low left (is_full left r) r s (taking (left - length s.out) s.run bs) (λ h. ltb-false left room (or_left (ltb left room) (is_over r) h))
    (byte_low r b) (ih (left - length s.out) s.run)

fits_none : (left : ℕ) (r : Run) → length (taking left r []).step.out ≤ left
unfolding taking
fits_none left r = omega arith

pub fits : Fits
fits left r [] = fits_none left r
fits left r (b ∷ bs) = fits_more left r b bs (λ k q. fits k q bs)
