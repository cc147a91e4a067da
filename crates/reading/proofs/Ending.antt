-- A line's end is where its first line feed is found, or the text's end.
use Rattle.std.proofs.Common.{◌≡◌, ℕ, ◌≤◌, ◌+◌, ◌==◌, Bool, true, false, cond, Option, Some, None, List, length, nat_lt, refl, arith, ltb-false, one-add}
use Rattle.std.specs.Prelude.{position}
use Rattle.std.specs.List.{position_or_len, slice_range}
use lib.Seq.{take-length}
use Rattle.std.specs.Option.{unwrap_or}
use lib.ListN.{length-drop, drop_of_length-le}
use Rattle.std.proofs.lemmas.List.Recursion.{is_position_or_len}
use Rattle.trace.specs.Text.{feed}
use Rattle.reading.specs.Fields.{width, end_at}
use Rattle.reading.proofs.Parts.{width_le}

width_position : (s : ℕ) (t : List ℕ) → width s t ≡ position_or_len (λ b. b == s) t
unfolding width
width_position s t = is_position_or_len (width s) (λ b. b == s) refl (λ x xs. rw one-add refl) t

pub width_found : (s : ℕ) (t : List ℕ) → unwrap_or (position (λ b. b == s) t) (length t) ≡ width s t
width_found s t = rw (← width_position s t) (go (nat_lt (width s t) (length t)) refl)
  where
    go : (q : Bool) → nat_lt (width s t) (length t) ≡ q → unwrap_or (cond q (Some (width s t)) None) (length t) ≡ width s t
    go true e = refl
    go false e = omega (arith, ltb-false (width s t) (length t) e, width_le s t)

pub feed_found : (text rest : List ℕ) (from n : ℕ) (q : Option ℕ) → rest ≡ slice_range text from (length text) → q ≡ position (λ b. b == feed) rest → n ≡ unwrap_or q (length rest)
    → from + n ≡ end_at feed text from
feed_found text rest from n q r e u = rw (u, e, width_found feed rest, r, ← length-drop from text, take-length)

pub no_rest : (text : List ℕ) (from : ℕ) → length text ≤ from → from ≡ end_at feed text from
unfolding width
no_rest text from h = rw (drop_of_length-le text h) (omega arith)
