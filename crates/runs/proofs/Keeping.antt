-- A line's text, of which the start is kept: bytes are put behind it one by one while there is room, and what is kept then says what the whole line asks for.
use Rattle.std.proofs.Common.{◌≡◌, ℕ, zero, suc, ◌+◌, ◌-◌, ◌≤◌, ◌<◌, min, List, ◌++◌, length, take, refl, ap, sym, ◌∙◌, arith, length-take-le, take_all, eq-eqb}
use native.Mathlib.Decide.{dec_lt}
use lib.Seq.{take-append-add}
use borrow.Author.Tests.{ne_eqb}
use borrow.Rule.Slice.PartMut.{put_mid}
use Rattle.std.proofs.lemmas.Slice.{take-put_mid}
use Rattle.trace.specs.Orders.{order_of}
use Rattle.trace.specs.Pieces.{enough}
use Rattle.trace.proofs.LineLaws.{enough_says}
use Rattle.runs.specs.Feeding.{Keeps, Gathers, text_of}

-- ---- so many bytes of the part as there is room for
pub kept_all : (kept : List ℕ) (count : ℕ) (part bytes : List ℕ) (n k : ℕ) → length kept ≡ 53 → count ≤ 53 → n ≡ min (length part) (53 - count)
    → bytes ≡ take n part → k ≡ n → Keeps kept count part (put_mid count k kept bytes) (count + n)
kept_all kept count part bytes n k long few e same room =
    record {
      low = omega arith;
      few = omega (arith, e);
      text =
          rw (same, room)
          (take-put_mid count n kept (take n part) (count + n) (omega (arith, length-take-le n part (omega (arith, e)))) (omega (arith, long))
          ∙ ap (λ (p : List ℕ). take count kept ++ p) (go (dec_lt n (length part)))
          ∙ sym cut);
    }
  where
    front : length (take count kept) ≡ count
    front = length-take-le count kept (omega (arith, long))

    cut : take enough (take count kept ++ part) ≡ take count kept ++ take (53 - count) part
    cut =
        let s : enough ≡ length (take count kept) + (53 - count) = omega (arith, front) in
        ap (λ (k : ℕ). take k (take count kept ++ part)) s ∙ take-append-add (take count kept) part (53 - count)

    go : Dec (n < length part) → take n part ≡ take (53 - count) part
    go (yes l) = let s : n ≡ 53 - count = omega (arith, e) in rw s
    go (no g) = take_all n part (omega (arith, e)) ∙ sym (take_all (53 - count) part (omega (arith, e)))

-- ---- the text of a line that ends
-- it asks for what the whole line does
pub text_asks : (kept : List ℕ) (count : ℕ) (part kept' : List ℕ) (n : ℕ) → Gathers kept count part kept' n
    → order_of (text_of kept' n part) ≡ order_of (take enough (take count kept ++ part))
text_asks kept zero part kept' n g = rw (eq-eqb n 0 (g.none refl)) (sym (enough_says part))
text_asks kept (suc count) part kept' n g =
    let k = g.some (omega arith) in
    rw (ne_eqb n 0 (λ e. absurd (omega (arith, k.low)))) (ap order_of k.text)
