-- What stands in the room after one part and the next: a word's store, a byte more, and the fields of a line.
use Prim.Native.Nat.{ℕ, ◌+◌, ◌≤◌, ◌<◌}
use mathlib.Core.Path.{◌≡◌, sym, ap, ◌∙◌}
use mathlib.Core.List.{List, [], ◌∷◌, ◌++◌, map, append_assoc, append-nil}
use native.Mathlib.Omega.{arith}
use native.Mathlib.Numerals.{add-one}
use lib.ListN.{length, take, set, length-append, length-set, length-take}
use lib.Seq.{length-take-le, take-take, take-append-add, take-suc-set, append_snoc}
use Rattle.trace.specs.Text.{tab}
use Rattle.trace.specs.Numbers.{digits, byte_of, hex_of}
use Rattle.trace.specs.Printed.{joined}
use Rattle.printing.specs.Puts.{Puts}
use Rattle.printing.specs.declared.Word.{Word}
use borrow.Rule.Slice.PartMut.{put_mid}
use Rattle.std.proofs.lemmas.Slice.{take-put_mid}
use Rattle.printing.specs.Parts.{Counts, Holds}
use Rattle.printing.proofs.Digits.{trim_one}

-- ---- one part and the next
pub puts_more : (o p q : List ℕ) (at r s : ℕ) (xs ys : List ℕ) → Puts o p at xs r → Puts p q r ys s → Puts o q at (xs ++ ys) s
puts_more o p q at r s xs ys a b =
    record { place = rw length-append (omega (arith, a.place, b.place)); text = b.text ∙ rw a.text (append_assoc (take at o) xs ys) }

-- what is written lies in the room
pub puts_fits : (o p : List ℕ) (at : ℕ) (xs : List ℕ) (r : ℕ) → Puts o p at xs r → at ≤ length o → r ≤ length p
puts_fits o p at xs r a h =
    omega (arith, ap length a.text, length-take r p, length-append (take at o) xs, length-take-le at o h, a.place)

byte_puts : (o p : List ℕ) (at r b : ℕ) (xs : List ℕ) → Puts o p at xs r → r < length p → Puts o (set p r b) at (xs ++ (b ∷ [])) (r + 1)
byte_puts o p at r b xs a h =
    record {
      place = rw length-append (omega (arith, a.place));
      text = rw (add-one r, take-suc-set p r b h, a.text) (append_assoc (take at o) xs (b ∷ []));
    }

-- ---- a number and the byte after it
pub hex_puts : (o p : List ℕ) (at n x b : ℕ) → Counts x n → Puts o p at (map byte_of (digits n x)) (at + n) → at + 17 ≤ length o
    → length p ≡ length o → Puts o (set p (at + n) b) at (hex_of x ++ (b ∷ [])) (at + n + 1)
hex_puts o p at n x b c a h l = rw c.same (byte_puts o p at (at + n) b (map byte_of (digits n x)) a (omega (arith, c.few)))

-- a number of one digit
pub digit_puts : (o : List ℕ) (at x d b : ℕ) → x < 16 → d ≡ byte_of x → at + 17 ≤ length o
    → Puts o (set (set o at d) (at + 1) b) at (hex_of x ++ (b ∷ [])) (at + 2)
digit_puts o at x d b s e h =
    let none : Puts o o at [] at = record { place = omega arith; text = rw append-nil } in
    let two : at + 1 + 1 ≡ at + 2 = omega arith in
    rw (trim_one x s, ← e, ← two)
    (byte_puts o (set o at d) at (at + 1) b (d ∷ []) (byte_puts o o at at d [] none (omega arith)) (simp length-set (omega arith)))

-- ---- a word of which eight bytes are stored
pub text_puts : (o text : List ℕ) (at k n : ℕ) → n ≤ k → length text ≡ k → at + k ≤ length o → Puts o (put_mid at k o text) at (take n text) (at + n)
text_puts o text at k n f l h =
    let e : length (take at o) ≡ at = length-take-le at o (omega arith) in
    let whole : take (at + k) (put_mid at k o text) ≡ take at o ++ text = take-put_mid at k o text (at + k) (omega (arith, l)) (omega arith) in
    record {
      place = ap (λ (m : ℕ). at + m) (sym (length-take-le n text (omega (arith, l))));
      text =
          sym (take-take (at + n) (at + k) (put_mid at k o text) (omega arith))
          ∙ ap (take (at + n)) whole
          ∙ rw e at (take-append-add (take at o) text n);
    }

pub word_puts : (o p : List ℕ) (at r : ℕ) (bytes : List ℕ) (w : Word) → Holds bytes w → Puts o p at (take w.length w.text) r → Puts o p at bytes r
word_puts o p at r bytes w h a = rw h.text at a

-- ---- fields: one and its tab, and the others to the line's end
joined_more : (o p q : List ℕ) (at r s : ℕ) (f g : List ℕ) (gs : List (List ℕ)) → Puts o p at (f ++ (tab ∷ [])) r → Puts p q r (joined g gs) s
    → Puts o q at (joined f (g ∷ gs)) s
joined_more o p q at r s f g gs a b = rw append_snoc at (puts_more o p q at r s (f ++ (tab ∷ [])) (joined g gs) a b)

-- two and the others
pub fields_put : (o p q o' : List ℕ) (at r s t : ℕ) (f g h : List ℕ) (hs : List (List ℕ)) → Puts o p at (f ++ (tab ∷ [])) r
    → Puts p q r (g ++ (tab ∷ [])) s → Puts q o' s (joined h hs) t → Puts o o' at (joined f (g ∷ h ∷ hs)) t
fields_put o p q o' at r s t f g h hs a b c = joined_more o p o' at r t f g (h ∷ hs) a (joined_more p q o' r s t g h hs b c)
