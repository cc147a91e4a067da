-- A run over an input, in whatever pieces, prints the output of the whole. What is still printed from a run on is what the lines that are left
-- give: those of the input to come, with the text so far before the first. Of that text the run keeps only the start, which says what the line
-- asks for.
use Rattle.std.proofs.Common.{◌≡◌, ℕ, zero, suc, Option, ◌+◌, ◌≤◌, Bool, true, false, cond, ◌||◌, eqb, List, [], ◌∷◌, ◌++◌, length, take, sym, refl, ap, ◌∙◌, append_assoc, arith, le-leb}
use mathlib.Core.Bool.{or-true}
use mathlib.Core.List.{flatten}
use lib.Dec.{eqb-suc-zero}
use lib.Seq.{take-nil}
use borrow.Author.Tests.{lt-leb}
use Rattle.rules.specs.Answers.{Words}
use Rattle.trace.specs.Text.{feed, onto, parted, lines_of}
use Rattle.trace.specs.Orders.{order_of}
use Rattle.trace.specs.Does.{Low, Given, does, line_does}
use Rattle.trace.specs.Printed.{printed, total_line}
use Rattle.trace.specs.Totals.{counted}
use Rattle.trace.specs.Trace.{most, answers, printed_from, answers_to, no_image, no_memory}
use Rattle.trace.specs.Pieces.{Run, begun, enough, kept, Step, ends, is_over, bytes, finished}
use Rattle.trace.specs.Claims.{counted_all, Whole, InPieces}
use Rattle.trace.specs.declared.Order.{Order}
use Rattle.trace.specs.declared.Totals.{Totals}
use Rattle.trace.proofs.LineLaws.{enough_says}
use Rattle.trace.proofs.TotalLaws.{are_counts}
use Rattle.trace.proofs.RunLaws.{take_start, pieces_flat, over, bytes_feed, bytes_other}

-- ---- lines, with a text before the first
abbrev front : List ℕ → List (List ℕ) → List (List ℕ)
front [] ls = ls
front (b ∷ g) ls = onto b (front g ls)

front_more : (g : List ℕ) (b : ℕ) (ls : List (List ℕ)) → front (g ++ (b ∷ [])) ls ≡ front g (onto b ls)
front_more [] b ls = refl
front_more (c ∷ g) b ls = ap (onto c) (front_more g b ls)

front_feed : (g : List ℕ) (ls : List (List ℕ)) → front g ([] ∷ ls) ≡ g ∷ ls
front_feed [] ls = refl
front_feed (b ∷ g) ls = ap (onto b) (front_feed g ls)

front_end : (b : ℕ) (g : List ℕ) → front (b ∷ g) [] ≡ (b ∷ g) ∷ []
front_end b [] = refl
front_end b (c ∷ g) = ap (onto b) (front_end c g)

-- ---- what is printed from a run on, for answers and for lines
abbrev told : ℕ → Totals → List Words → List ℕ
told n t ws = printed_from (n + 1) ws ++ total_line (counted_all t ws)

abbrev rest : Run → List (List ℕ) → List ℕ
rest r ls = told r.lines r.totals (answers ls r.image r.memory)

rest_line : (r : Run) (g : List ℕ) (ls : List (List ℕ)) → r.text ≡ take enough g → (ends r).out ++ rest (ends r).run ls ≡ rest r (g ∷ ls)
unfolding answers printed_from
rest_line r g ls e =
    first (line_does r.text r.image r.memory)
    ∙ ap (λ (o : Option Order). from (does o r.image r.memory)) (ap order_of e ∙ enough_says g)
  where
    from : Given → List ℕ
    from v = told r.lines r.totals (v.answer ∷ answers ls v.image v.memory)

    first : (v : Given)
        → printed (r.lines + 1) v.answer ++ told (r.lines + 1) (counted r.totals v.answer) (answers ls v.image v.memory) ≡ from v
    first v = sym (append_assoc (printed (r.lines + 1) v.answer) (printed_from (r.lines + 1 + 1) (answers ls v.image v.memory)) _)

rest_none : (r : Run) → (is_over r || eqb (length r.text) 0) ≡ true → finished r ≡ rest r []
unfolding answers printed_from
rest_none r h = rw h

rest_last : (r : Run) (b : ℕ) (g : List ℕ) → is_over r ≡ false → r.text ≡ take enough (b ∷ g) → finished r ≡ rest r ((b ∷ g) ∷ [])
unfolding answers printed_from
rest_last r b g h e = let l : eqb (length r.text) 0 ≡ false = rw (e, eqb-suc-zero) in rw (h, l) (rest_line r (b ∷ g) [] e)

-- ---- a run, with the whole text so far of the line that has no end yet, and the number of lines that may come
record Keeps (r : Run) (g : List ℕ) (k : ℕ) : Type 0 where
  text : r.text ≡ take enough g
  lines : r.lines + k ≡ most

-- all that is printed where the input ends after a step
abbrev pub ended : Step → List ℕ
ended s = s.out ++ finished s.run

is_over_lem : (r : Run) → r.lines + 0 ≡ most → is_over r ≡ true
is_over_lem r h = le-leb most r.lines (omega arith)

not_over : (r : Run) (k : ℕ) → r.lines + suc k ≡ most → is_over r ≡ false
not_over r k h = lt-leb most r.lines (omega arith)

run_end : (r : Run) (g : List ℕ) (k : ℕ) → Keeps r g k → finished r ≡ rest r (take k (front g []))
run_end r g zero q = rest_none r (rw (is_over_lem r q.lines))
run_end r [] (suc k) q = rest_none r (rw q.text (or-true (is_over r)))
run_end r (b ∷ g) (suc k) q = rw (front_end b g, take-nil k) (rest_last r b g (not_over r k q.lines) q.text)

-- what is claimed for an input, whatever came before it
abbrev Goes : List ℕ → Type 0
Goes input = (g : List ℕ) (k : ℕ) (r : Run) → Keeps r g k → ended (bytes r input) ≡ rest r (take k (front g (lines_of input)))

run_all : (input : List ℕ) → Goes input
unfolding bytes parted
run_all [] g k r q = run_end r g k q
run_all (b ∷ bs) g zero r q = ap ended (over r (b ∷ bs) (is_over_lem r q.lines)) ∙ run_end r g 0 q
run_all (b ∷ bs) g (suc k) r q = go (eqb b feed) refl (run_all bs)
  where
    h : is_over r ≡ false
    h = not_over r k q.lines

    go : (t : Bool) → eqb b feed ≡ t → Goes bs
        → ended (bytes r (b ∷ bs)) ≡ rest r (take (suc k) (front g (cond t ([] ∷ lines_of bs) (onto b (lines_of bs)))))
    go true e ih =
        ap ended (bytes_feed r b bs h e)
        ∙ append_assoc (ends r).out (bytes (ends r).run bs).out (finished (bytes (ends r).run bs).run)
        ∙ ap (λ (l : List ℕ). (ends r).out ++ l) (ih [] k (ends r).run (record { text = refl; lines = omega (arith, q.lines) }))
        ∙ rest_line r g (take k (lines_of bs)) q.text
        ∙ ap (λ (ls : List (List ℕ)). rest r (take (suc k) ls)) (sym (front_feed g (lines_of bs)))
    go false e ih =
        ap ended (bytes_other r b bs h e)
        ∙ ih (g ++ (b ∷ [])) (suc k) (kept r (r.text ++ (b ∷ [])))
        (record { text = rw q.text (take_start enough g (b ∷ [])); lines = q.lines })
        ∙ ap (λ (ls : List (List ℕ)). rest r (take (suc k) ls)) (front_more g b (lines_of bs))

answers_few : (n : ℕ) (ls : List (List ℕ)) (b : List ℕ) (mem : Low) → length (answers (take n ls) b mem) ≤ n
unfolding answers
answers_few zero ls b mem = omega arith
answers_few (suc n) [] b mem = omega arith
answers_few (suc n) (l ∷ ls) b mem = let g : Given = line_does l b mem in omega (arith, answers_few n ls g.image g.memory)

pub whole : Whole
whole input =
    run_all input [] most begun (record { text = refl; lines = refl })
    ∙ ap (λ (t : Totals). printed_from 1 (answers_to input) ++ total_line t)
    (are_counts (answers_to input) (answers_few most (lines_of input) no_image no_memory))

pub in_pieces : InPieces
in_pieces ps = ap ended (pieces_flat begun ps) ∙ whole (flatten ps)
