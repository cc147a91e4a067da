-- Laws of a run over bytes: one piece after another is the two put together, and after the last line that is read nothing counts.
use Rattle.std.proofs.Common.{◌≡◌, ℕ, zero, suc, true, false, eqb, List, [], ◌∷◌, ◌++◌, take, sym, refl, ap, ◌∙◌, append_assoc}
use mathlib.Core.List.{flatten}
use Rattle.trace.specs.Text.{feed}
use Rattle.trace.specs.Pieces.{Run, kept, Step, ends, is_over, byte, after, bytes}
use Rattle.trace.specs.Claims.{pieces, Over}

-- the start of a text, with more behind it, has the start of the two
pub take_start : (n : ℕ) (xs ys : List ℕ) → take n (take n xs ++ ys) ≡ take n (xs ++ ys)
take_start zero xs ys = refl
take_start (suc n) [] ys = refl
take_start (suc n) (x ∷ xs) ys = ap (λ (l : List ℕ). x ∷ l) (take_start n xs ys)

after_after : (o q : List ℕ) (s : Step) → after (o ++ q) s ≡ after o (after q s)
after_after o q s = ap (λ (l : List ℕ). record { out = l; run = s.run }) (append_assoc o q s.out)

pub bytes_append : (r : Run) (xs ys : List ℕ) → bytes r (xs ++ ys) ≡ after (bytes r xs).out (bytes (bytes r xs).run ys)
unfolding bytes
bytes_append r [] ys = refl
bytes_append r (b ∷ xs) ys =
    ap (after (byte r b).out) (bytes_append (byte r b).run xs ys)
    ∙ sym (after_after (byte r b).out (bytes (byte r b).run xs).out _)

pub pieces_flat : (r : Run) (ps : List (List ℕ)) → pieces r ps ≡ bytes r (flatten ps)
unfolding bytes flatten
pieces_flat r [] = refl
pieces_flat r (p ∷ ps) = ap (after (bytes r p).out) (pieces_flat (bytes r p).run ps) ∙ sym (bytes_append r p (flatten ps))

pub over : Over
unfolding bytes
over r [] h = refl
over r (b ∷ bs) h = rw (h, over r bs h)

-- ---- one byte before others, by what it is
module _ (r : Run) (b : ℕ) (bs : List ℕ) (h : is_over r ≡ false) where
  pub bytes_feed : eqb b feed ≡ true → bytes r (b ∷ bs) ≡ after (ends r).out (bytes (ends r).run bs)
  unfolding bytes
  bytes_feed e = rw (h, e)

  pub bytes_other : eqb b feed ≡ false → bytes r (b ∷ bs) ≡ bytes (kept r (r.text ++ (b ∷ []))) bs
  unfolding bytes
  bytes_other e = rw (h, e)
