-- The steps of a translation into a record, over the image's bytes: what each is lent, and what it writes.
use Rattle.std.specs.Prelude.{ℕ, ◌/◌, ◌≡◌, Bool, cond, ◌&&◌, List, length}
use Rattle.rules.specs.Sizes.{size_of}
use Rattle.rules.specs.Image.{encode, decode, control, pcid}
use Rattle.rules.specs.Memory.{Memory, Whole}
use Rattle.rules.specs.Buffer.{serves, hit_address}
use Rattle.rules.specs.Answers.{numbers, record_bytes}
use Rattle.rules.specs.Calls.{After}
use Rattle.rules.specs.declared.Answer.TheVariants.{Address}
use Rattle.sets.specs.Ways.{tag_in}
use Rattle.buffer.specs.Look.{is_of}
use Rattle.numbers.specs.Needs.{ForEach, Known}
use Rattle.records.specs.Record.{Holds}
use Rattle.paging.specs.Paged.{Usable}

-- what is lent: the bytes of an image, with a width, a record's room, memory that is whole, and the number of an access
pub record Lent (b r : List ℕ) (mem : Memory) (n : ℕ) : Type 0 where
  pub usable : Usable b
  pub room : length r ≡ 32
  pub whole : Whole mem
  pub known : Known (decode b).flags n

-- what is left of an outcome over parts: the answer in its record, bytes and memory
pub record Writes (o : After) (r' b' : List ℕ) (mem' : Memory) : Type 0 where
  pub answer : Holds (numbers o.answer) r'
  pub image : b' ≡ encode o.image
  pub memory : mem' ≡ o.memory

-- a held page: the slot at a place answers if it is one's own and allows the access, whatever access has this number; then its record is written, else nothing
pub record Serves (b : List ℕ) (at l n a : ℕ) (r r' : List ℕ) (v : Bool) : Type 0 where
  pub told : ForEach (decode b).flags n (λ k. v ≡ (is_of (pcid (decode b)) (tag_in b (at / 16)) && serves (control (decode b)) k ((decode b).slots (at / 16)).datum))
  pub answer : r' ≡ cond v (record_bytes (numbers (Address (hit_address (size_of (at / 16)) ((decode b).slots (at / 16)).datum a) l 0))) r
