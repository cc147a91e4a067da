-- A line that ends is printed behind what stands there, and its answer, read back out of its record, is counted.
use Prim.Native.Nat.{ℕ, ◌+◌, ◌-◌, ◌≤◌}
use mathlib.Core.Path.{◌≡◌, refl, ap, ◌∙◌}
use mathlib.Core.List.{List, [], ◌++◌, append-nil}
use native.Mathlib.Omega.{arith}
use lib.ListN.{length, take, drop, length-drop, drop_of_length-le}
use lib.Seq.{length-take-le, take-append-add}
use borrow.Author.Tests.{le-ltb}
use Rattle.records.specs.Record.{words_of, record_at}
use Rattle.records.specs.declared.Record.{Record}
use Rattle.rules.specs.Answers.{record_bytes}
use Rattle.trace.specs.Orders.{order_of}
use Rattle.trace.specs.Does.{Low, Given, line_does}
use Rattle.trace.specs.Printed.{printed}
use Rattle.trace.specs.Totals.{counted}
use Rattle.trace.specs.Pieces.{room}
use Rattle.trace.specs.declared.Totals.{Totals}
use Rattle.lines.specs.Line.{LineLeft, line_in, Lines}
use Rattle.lines.proofs.Answering.{given_fits, read_back}
use Rattle.runs.specs.declared.Run.{Run as RunOf}
use Rattle.runs.specs.Feeding.{Ends}

-- what is printed into the rest of the lent bytes stands behind what was there
seam : (front back none : List ℕ) (i k : ℕ) → length front ≡ i → none ≡ [] → take (i + k) (front ++ (back ++ none)) ≡ front ++ take k back
seam front back none i k e z = rw (← e, z, append-nil) (take-append-add front back k)

-- ---- a line that ends: it is printed behind what stands there, and its answer is counted
module _ (r : RunOf) (b b' : List ℕ) (mem mem' : Low) (text out part' : List ℕ) (at : ℕ) (r₀ r' : List ℕ) (n : ℕ) (h : at + 80 ≤ length out)
    (l : Lines text (r.lines + 1) b b' mem mem' r₀ r' (take (length out - at) (drop at out)) part' n) where
  abbrev given : Given
  given = line_does text b mem

  lent : length (take (length out - at) (drop at out)) ≡ length out - at
  lent = length-take-le (length out - at) (drop at out) (omega (arith, length-drop at out))

  done : line_in (length (take (length out - at) (drop at out))) text (r.lines + 1) b mem r₀
      ≡ record { text = printed (r.lines + 1) given.answer; answer = record_bytes given.answer; image = given.image; memory = given.memory }
  done = rw (le-ltb (length (take (length out - at) (drop at out))) room (omega (arith, lent)))

  outcome : ◌≡◌ {A = LineLeft} (record { text = take n part'; answer = r'; image = b'; memory = mem' })
      (record { text = printed (r.lines + 1) given.answer; answer = record_bytes given.answer; image = given.image; memory = given.memory })
  outcome = l.outcome ∙ done

  count : n ≡ length (printed (r.lines + 1) given.answer)
  count = l.count ∙ ap (λ (o : LineLeft). length o.text) done

  pub line_ended : (t : Totals) (w : Record) → w ≡ record_at r' → t ≡ counted r.totals (words_of w)
      → Ends r b b' mem mem' text out (take at out ++ (part' ++ drop (length out - at) (drop at out))) at
      (record { run = record { kept = 0; lines = r.lines + 1; totals = t }; written = at + n })
  line_ended t w k e =
      let back = read_back given.answer r' (ap (λ (o : LineLeft). o.answer) outcome) (given_fits (order_of text) b mem) in
      let totals : t ≡ counted r.totals given.answer = e ∙ rw (k, back 0 (omega arith), back 2 (omega arith), back 3 (omega arith)) in
      record {
        puts = record {
          place = omega (arith, count);
          text =
              seam (take at out) part' (drop (length out - at) (drop at out)) at n (length-take-le at out (omega arith)) (drop_of_length-le (drop at out) {i = length out - at} (omega (arith, length-drop at out)))
              ∙ ap (λ (o : LineLeft). take at out ++ o.text) outcome;
        };
        fresh = refl;
        run = λ kept' i. record { text = []; lines = r.lines + 1; totals = totals i; image = (outcome i).image; memory = (outcome i).memory };
      }
