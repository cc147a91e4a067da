-- An answer in its record's bytes.
use Rattle.std.specs.Prelude.{◌≡◌, List, ℕ}
use Rattle.rules.specs.Bits.{word_at}
use Rattle.rules.specs.Answers.{Words, numbers, record_bytes, returned}
use Rattle.rules.specs.declared.Answer.{Answer}
use Rattle.records.specs.declared.Record.{Record}

-- the record's words, as the rules have them
abbrev pub words_of : Record → Words
words_of w = record { kind = w.kind; value = w.value; size = w.size; read = w.read }

-- the record whose four words stand in these bytes
abbrev pub record_at : List ℕ → Record
record_at r = record { kind = word_at r 0; value = word_at r 8; size = word_at r 16; read = word_at r 24 }

-- the answer bytes are these four words
pub record Holds (w : Words) (r' : List ℕ) : Type 0 where
  pub bytes : r' ≡ record_bytes w

-- an answer's words, and the number that is returned for it
pub record Recorded (a : Answer) (r' : List ℕ) (n : ℕ) : Type 0 where
  pub words : Holds (numbers a) r'
  pub number : n ≡ returned a
