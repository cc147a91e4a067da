-- The totals that are kept answer by answer are the counts in the list of answers: no count is more than the answers, so none comes to 2^64.
use Rattle.std.proofs.Common.{◌≡◌, ℕ, ◌+◌, ◌^◌, ◌<◌, Bool, true, false, List, [], ◌∷◌, length, refl, ◌∙◌, zero-add, arith}
use Rattle.rules.specs.Bits.{one}
use Rattle.rules.specs.Answers.{Words}
use Rattle.trace.specs.Totals.{is_address, is_hit, is_fault, is_refused, count, more, counted, no_totals}
use Rattle.trace.specs.Claims.{counted_all, AreCounts}
use Rattle.trace.specs.declared.Totals.{Totals}

-- ---- one of the totals
abbrev more_all : (Words → Bool) → ℕ → List Words → ℕ
more_all f n [] = n
more_all f n (w ∷ ws) = more_all f (more (f w) n) ws

more_one : (b : Bool) (n : ℕ) → n + 1 < 2 ^ 64 → more b n ≡ n + one b
more_one true n h = omega arith
more_one false n h = omega arith

more_count : (f : Words → Bool) (n : ℕ) (ws : List Words) → n + length ws < 2 ^ 64 → more_all f n ws ≡ n + count f ws
unfolding count
more_count f n [] h = omega arith
more_count f n (w ∷ ws) h = rw (more_one (f w) n (omega arith)) (more_count f (n + one (f w)) ws (low (f w)) ∙ omega arith)
  where
    low : (b : Bool) → n + one b + length ws < 2 ^ 64
    low true = omega arith
    low false = omega arith

-- ---- all four
each : (t : Totals) (ws : List Words)
    → counted_all t ws
    ≡ record {
      addresses = more_all is_address t.addresses ws;
      hits = more_all is_hit t.hits ws;
      faults = more_all is_fault t.faults ws;
      refused = more_all is_refused t.refused ws;
    }
each t [] = refl
each t (w ∷ ws) = each (counted t w) ws

pub are_counts : AreCounts
are_counts ws h = each no_totals ws ∙ rw (from is_address, from is_hit, from is_fault, from is_refused)
  where
    from : (f : Words → Bool) → more_all f 0 ws ≡ count f ws
    from f = more_count f 0 ws (omega arith) ∙ zero-add (count f ws)
