-- What a line does: a call of the rules, a start with flags 0 and a translate with AC 0; or the store of one guest word.
use Rattle.std.specs.Prelude.{ℕ, Option, Some, None, ◌+◌, ◌%◌, Bool, cond, ◌&&◌, List, [], length, ◌==◌, nat_le}
use Rattle.rules.specs.Bits.{word_put}
use Rattle.rules.specs.Memory.{both}
use Rattle.rules.specs.Answers.{Words, numbers}
use Rattle.rules.specs.Refusals.{Request, start_with, translate, invlpg, invpcid, write_cr3, write_mode}
use Rattle.rules.specs.Calls.{Outcome, call}
use Rattle.rules.specs.declared.Answer.TheVariants.{Done}
use Rattle.trace.specs.Orders.{order_of}
use Rattle.trace.specs.declared.Order.{Order}
use Rattle.trace.specs.declared.Order.TheVariants.{Start, Mode, Cr3, Invlpg, Invpcid, Translate, Put}

-- the guest memory of a trace is low alone: calls are lent no high
abbrev pub Low : Type 0
Low = List ℕ

-- what a line gives and leaves: the four words of its answer, the image and guest memory
pub record Given : Type 0 where
  pub answer : Words
  pub image : List ℕ
  pub memory : Low

-- a bad line: a fifth kind beside those of the answer record, with zeros
abbrev pub no_answer : Words
no_answer = record { kind = 4; value = 0; size = 0; read = 0 }

-- it changes nothing
abbrev pub refuses_line : List ℕ → Low → Given
refuses_line b mem = record { answer = no_answer; image = b; memory = mem }

abbrev pub calls : List ℕ → Low → Request → Given
calls b mem q = let o : Outcome = call b (both mem []) q in record { answer = numbers o.answer; image = o.image; memory = o.memory.low }

-- a place for a word of the guest's: a multiple of 8 that lies in memory
abbrev pub is_place : Low → ℕ → Bool
is_place mem a = a % 8 == 0 && nat_le (a + 8) (length mem)

abbrev pub stores : List ℕ → Low → ℕ → ℕ → Given
stores b mem a x =
    cond (is_place mem a) (record { answer = numbers Done; image = b; memory = word_put mem a x }) (refuses_line b mem)

abbrev pub does : Option Order → List ℕ → Low → Given
does (Some (Start w)) b mem = calls b mem (start_with w 0)
does (Some (Mode v)) b mem = calls b mem (write_mode v)
does (Some (Cr3 v)) b mem = calls b mem (write_cr3 v)
does (Some (Invlpg a)) b mem = calls b mem (invlpg a)
does (Some (Invpcid t p a)) b mem = calls b mem (invpcid t p a)
does (Some (Translate k a)) b mem = calls b mem (translate k a 0)
does (Some (Put a x)) b mem = stores b mem a x
does None b mem = refuses_line b mem

abbrev pub line_does : List ℕ → List ℕ → Low → Given
line_does line = does (order_of line)
