-- The same over an input that comes in pieces, byte by byte. Of a line no more is kept than shows that it is too long to be good: that this, cut anywhere, gives the
-- output of the whole is shown (`Claims`).
use Rattle.std.specs.Prelude.{ℕ, suc, ◌+◌, ◌-◌, Bool, cond, ◌||◌, List, [], ◌∷◌, ◌++◌, length, take, ◌==◌, nat_le, nat_lt}
use Rattle.trace.specs.Text.{feed}
use Rattle.trace.specs.Does.{Low, Given, line_does}
use Rattle.trace.specs.Printed.{printed, total_line}
use Rattle.trace.specs.Totals.{counted, no_totals}
use Rattle.trace.specs.Trace.{most, no_image, no_memory}
use Rattle.trace.specs.declared.Totals.{Totals}

-- what a run keeps: the start of the line that has no end yet, how many lines were, their totals, the image and guest memory
pub record Run : Type 0 where
  pub text : List ℕ
  pub lines : ℕ
  pub totals : Totals
  pub image : List ℕ
  pub memory : Low

abbrev pub begun : Run
begun = record { text = []; lines = 0; totals = no_totals; image = no_image; memory = no_memory }

-- a good line has at most 52 bytes, a letter and three numbers: one byte more tells that a line is longer
abbrev pub enough : ℕ
enough = 53

abbrev pub kept : Run → List ℕ → Run
kept r t = record { text = take enough t; lines = r.lines; totals = r.totals; image = r.image; memory = r.memory }

-- a step's outcome: what is printed, and what is kept then
pub record Step : Type 0 where
  pub out : List ℕ
  pub run : Run

-- the line ends here
abbrev pub ends : Run → Step
ends r =
    let g : Given = line_does r.text r.image r.memory in
    record {
      out = printed (r.lines + 1) g.answer;
      run = record { text = []; lines = r.lines + 1; totals = counted r.totals g.answer; image = g.image; memory = g.memory };
    }

abbrev pub is_over : Run → Bool
is_over r = nat_le most r.lines

-- one byte more; after the last line that is read, none counts
abbrev pub byte : Run → ℕ → Step
byte r b =
    cond (is_over r) (record { out = []; run = r })
    (cond (b == feed) (ends r) (record { out = []; run = kept r (r.text ++ (b ∷ [])) }))

abbrev pub after : List ℕ → Step → Step
after o s = record { out = o ++ s.out; run = s.run }

unfoldable pub bytes : Run → List ℕ → Step
bytes r [] = record { out = []; run = r }
bytes r (b ∷ bs) = after (byte r b).out (bytes (byte r b).run bs)

-- the end of the input: the last line may lack its end; then the totals
abbrev pub last_line : Run → Step
last_line r = cond (is_over r || length r.text == 0) (record { out = []; run = r }) (ends r)

abbrev pub finished : Run → List ℕ
finished r = (last_line r).out ++ total_line (last_line r).run.totals

-- ---- into lent bytes: no byte is taken once they have less room than any line needs
abbrev pub room : ℕ
room = 80

pub record Taken : Type 0 where
  pub step : Step
  pub taken : ℕ

abbrev pub is_full : ℕ → Run → Bool
is_full left r = nat_lt left room || is_over r

abbrev pub onward : Step → Taken → Taken
onward s t = record { step = after s.out t.step; taken = suc t.taken }

unfoldable pub taking : ℕ → Run → List ℕ → Taken
taking left r [] = record { step = record { out = []; run = r }; taken = 0 }
taking left r (b ∷ bs) =
    cond (is_full left r) (record { step = record { out = []; run = r }; taken = 0 })
    (onward (byte r b) (taking (left - length (byte r b).out) (byte r b).run bs))
