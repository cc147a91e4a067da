-- What a line leaves: its answer in the 32 bytes of a record, the image and guest memory, and what is printed of it.
use Rattle.std.specs.Prelude.{ℕ, ◌≡◌, cond, List, [], ltb, length, take}
use Rattle.rules.specs.Answers.{record_bytes}
use Rattle.trace.specs.Does.{Low, Given, stores, line_does}
use Rattle.trace.specs.Printed.{printed}
use Rattle.trace.specs.Pieces.{room}

pub record Gives (g : Given) (r' b' : List ℕ) (mem' : Low) : Type 0 where
  pub answer : r' ≡ record_bytes g.answer
  pub image : b' ≡ g.image
  pub memory : mem' ≡ g.memory

-- a store, whatever the image is
pub record Stores (mem mem' : Low) (a x : ℕ) (r' : List ℕ) : Type 0 where
  pub gives : (b : List ℕ) → Gives (stores b mem a x) r' b mem'

-- ---- a whole line
-- what is printed, the 32 bytes of the answer, the image and guest memory
pub record LineLeft : Type 0 where
  pub text : List ℕ
  pub answer : List ℕ
  pub image : List ℕ
  pub memory : Low

-- by how many bytes are lent for what is printed: with less room than any line needs nothing is done
abbrev pub line_in : ℕ → List ℕ → ℕ → List ℕ → Low → List ℕ → LineLeft
line_in lent text number b mem r =
    let g : Given = line_does text b mem in
    cond (ltb lent room) (record { text = []; answer = r; image = b; memory = mem })
    (record { text = printed number g.answer; answer = record_bytes g.answer; image = g.image; memory = g.memory })

-- the first n of the lent bytes are what is printed
pub record Lines (text : List ℕ) (number : ℕ) (b b' : List ℕ) (mem mem' : Low) (r r' out out' : List ℕ) (n : ℕ) : Type 0 where
  pub count : n ≡ length (line_in (length out) text number b mem r).text
  pub outcome : ◌≡◌ {A = LineLeft} (record { text = take n out'; answer = r'; image = b'; memory = mem' }) (line_in (length out) text number b mem r)
