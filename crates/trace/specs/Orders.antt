-- A line to what it asks for: a letter, then its numbers, each after one tab. A line of any other form is bad, and asks for nothing.
use Rattle.std.specs.Prelude.{ℕ, Option, Some, None, cond, List, [], ◌∷◌, map, ◌==◌}
use Rattle.trace.specs.Text.{fields_of}
use Rattle.trace.specs.Numbers.{number_of}
use Rattle.trace.specs.declared.Order.{Order}
use Rattle.trace.specs.declared.Order.TheVariants.{Start, Mode, Cr3, Invlpg, Invpcid, Translate, Put}

-- ---- by the letter: S, M, C and I have one number, T and P two, V three
abbrev pub with_one : ℕ → ℕ → Option Order
with_one c x =
    cond (c == 83) (Some (Start x))
    (cond (c == 77) (Some (Mode x)) (cond (c == 67) (Some (Cr3 x)) (cond (c == 73) (Some (Invlpg x)) None)))

abbrev pub with_two : ℕ → ℕ → ℕ → Option Order
with_two c x y = cond (c == 84) (Some (Translate x y)) (cond (c == 80) (Some (Put x y)) None)

abbrev pub with_three : ℕ → ℕ → ℕ → ℕ → Option Order
with_three c x y z = cond (c == 86) (Some (Invpcid x y z)) None

-- each field is a number, and there are one to three
abbrev pub ordered : ℕ → List (Option ℕ) → Option Order
ordered c [] = None
ordered c (None ∷ ns) = None
ordered c (Some x ∷ []) = with_one c x
ordered c (Some x ∷ None ∷ ns) = None
ordered c (Some x ∷ Some y ∷ []) = with_two c x y
ordered c (Some x ∷ Some y ∷ None ∷ ns) = None
ordered c (Some x ∷ Some y ∷ Some z ∷ []) = with_three c x y z
ordered c (Some x ∷ Some y ∷ Some z ∷ n ∷ ns) = None

-- ---- by the fields: the first is the letter alone
abbrev pub by_fields : List (List ℕ) → Option Order
by_fields [] = None
by_fields ([] ∷ fs) = None
by_fields ((c ∷ []) ∷ fs) = ordered c (map number_of fs)
by_fields ((c ∷ d ∷ bs) ∷ fs) = None

abbrev pub order_of : List ℕ → Option Order
order_of line = by_fields (fields_of line)
