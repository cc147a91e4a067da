-- A line's answer is read back out of its record: each of its numbers fits a word, those of a call by the rules' law, the others since they are small.
use Prim.Native.Nat.{ℕ, zero, suc, ◌*◌, ◌^◌, ◌≤◌, ◌<◌}
use mathlib.Core.Path.{◌≡◌, ap, sym, ◌∙◌}
use mathlib.Core.Bool.{false}
use mathlib.Core.List.{List, [], ◌∷◌}
use native.Mathlib.Omega.{arith}
use native.Mathlib.Nat.{zero-add}
use lib.Dec.{ltb}
use lib.ListN.{length, get_or}
use borrow.Author.Tests.{le-ltb}
use Rattle.rules.specs.Memory.{both}
use Rattle.rules.specs.Bits.{AreWords, word_at}
use Rattle.rules.specs.Bits.{words_of as words_in}
use Rattle.records.specs.Record.{words_of, record_at}
use Rattle.records.specs.declared.Record.{Record}
use Rattle.std.specs.Prelude.{Option, Some, None}
use Rattle.rules.specs.Answers.{Words, record_bytes}
use Rattle.rules.specs.Refusals.{start_with, translate, invlpg, invpcid, write_cr3, write_mode}
use Rattle.rules.proofs.BoolLaws.{either}
use Rattle.rules.proofs.WordLaws.{words_all, word_at_lem}
use Rattle.rules.proofs.AnswerLaws.{listed, answer_fits}
use Rattle.trace.specs.Orders.{order_of}
use Rattle.trace.specs.Does.{Low, Given, is_place, does, line_does}
use Rattle.trace.specs.Printed.{printed}
use Rattle.trace.specs.Pieces.{room}
use Rattle.trace.specs.declared.Order.{Order}
use Rattle.trace.specs.declared.Order.TheVariants.{Start, Mode, Cr3, Invlpg, Invpcid, Translate, Put}
use Rattle.printing.specs.Puts.{Puts}
use Rattle.lines.specs.Line.{Gives, Lines}

-- ---- the answer fits
small_fits : (k : ℕ) → k < 2 ^ 64 → AreWords (k ∷ 0 ∷ 0 ∷ 0 ∷ [])
small_fits k h zero = h
small_fits k h (suc zero) = omega arith
small_fits k h (suc (suc zero)) = omega arith
small_fits k h (suc (suc (suc zero))) = omega arith
small_fits k h (suc (suc (suc (suc i)))) = omega arith

pub given_fits : (o : Option Order) (b : List ℕ) (mem : Low) → AreWords (listed (does o b mem).answer)
given_fits (Some (Start w)) b mem = answer_fits b (both mem []) (start_with w 0)
given_fits (Some (Mode v)) b mem = answer_fits b (both mem []) (write_mode v)
given_fits (Some (Cr3 v)) b mem = answer_fits b (both mem []) (write_cr3 v)
given_fits (Some (Invlpg a)) b mem = answer_fits b (both mem []) (invlpg a)
given_fits (Some (Invpcid t p a)) b mem = answer_fits b (both mem []) (invpcid t p a)
given_fits (Some (Translate k a)) b mem = answer_fits b (both mem []) (translate k a 0)
given_fits (Some (Put a x)) b mem =
    either (λ (g : Given). AreWords (listed g.answer)) (is_place mem a) _ _ (λ e. small_fits 3 (omega arith)) (λ e. small_fits 4 (omega arith))
given_fits None b mem = small_fits 4 (omega arith)

-- ---- so its words are read back
pub read_back : (w : Words) (r : List ℕ) → r ≡ record_bytes w → AreWords (listed w) → (i : ℕ) → i < 4 → word_at r (8 * i) ≡ get_or (listed w) i 0
read_back w r e h i l = sym (word_at_lem 4 i r l) ∙ ap (λ (ws : List ℕ). get_or ws i 0) (ap (words_in 4) e ∙ words_all (listed w) h)

-- ---- the order is done, and its answer printed
pub line_printed : (number : ℕ) (out out' r r' b b' : List ℕ) (mem mem' : Low) (w : Record) (end : ℕ) (text : List ℕ) → 80 ≤ length out
    → Gives (line_does text b mem) r' b' mem' → w ≡ record_at r' → Puts out out' 0 (printed number (words_of w)) end
    → Lines text number b b' mem mem' r r' out out' end
line_printed number out out' r r' b b' mem mem' w end text h g k p =
    let back = read_back (line_does text b mem).answer r' g.answer (given_fits (order_of text) b mem) in
    let said : printed number (words_of w) ≡ printed number (line_does text b mem).answer =
    rw (k, back 0 (omega arith), back 1 (omega arith), back 2 (omega arith), back 3 (omega arith)) in
    let room : ltb (length out) room ≡ false = le-ltb (length out) room h in
    record {
      count = rw room (p.place ∙ zero-add _ ∙ ap length said);
      outcome = rw room (λ i. record { text = (p.text ∙ said) i; answer = g.answer i; image = g.image i; memory = g.memory i });
    }
