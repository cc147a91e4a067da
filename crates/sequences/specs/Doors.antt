-- Calls through the door: the same as a history, with the answer bytes that each call is lent. A call whose answer bytes have the wrong length is a step
-- that changes nothing, and a batch, a call for many addresses, is its single calls; so what is claimed of histories is claimed of calls through the door.
use Rattle.std.specs.Prelude.{ℕ, ◌≡◌, true, false, cond, List, [], ◌∷◌, ◌++◌, length, eqb}
use Rattle.rules.specs.Memory.{Memory, empty}
use Rattle.rules.specs.Answers.{numbers, record_bytes}
use Rattle.rules.specs.Refusals.{Request, start_with, refusal}
use Rattle.rules.specs.Calls.{written, call, door}
use Rattle.rules.specs.Many.{Pair, pairs_in, asks, no_pairs, many}
use Rattle.sequences.specs.History.{History, begun, ◌then◌with◌, bytes}

-- ---- a batch over histories
-- after h, a translate for each pair, one by one: the first is given this memory, and each of the others what the one before left
abbrev pub one_by_one : History → Memory → List Pair → History
one_by_one h mem [] = h
one_by_one h mem (p ∷ ps) = one_by_one (h then asks p with mem) (call (bytes h) mem (asks p)).memory ps

-- their records one after the other, each that of the call after the history of those before it
abbrev pub records_of : History → Memory → List Pair → List ℕ
records_of h mem [] = []
records_of h mem (p ∷ ps) =
    record_bytes (numbers (call (bytes h) mem (asks p)).answer) ++ records_of (h then asks p with mem) (call (bytes h) mem (asks p)).memory ps

-- the memory that the last of them leaves; without a pair, the memory that is given
abbrev pub left_of : History → Memory → List Pair → Memory
left_of h mem [] = mem
left_of h mem (p ∷ ps) = left_of (h then asks p with mem) (call (bytes h) mem (asks p)).memory ps

-- ---- calls through the door: an accepted start, and then single calls and batches, each with its memory and its answer bytes
infixl 20 ◌then◌with◌into◌
infixl 20 ◌then_many◌with◌into◌
pub data Doors : Type 0 where
  opened : (answer image : List ℕ) (width flags : ℕ) → length answer ≡ 32 → refusal image empty (start_with width flags) ≡ 0 → Doors
  ◌then◌with◌into◌ : Doors → Request → Memory → List ℕ → Doors
  ◌then_many◌with◌into◌ : Doors → (pairs : List ℕ) → Memory → (answers : List ℕ) → Doors

-- the image's bytes that the last call left
abbrev pub door_bytes : Doors → List ℕ
door_bytes (opened r b w f long ok) = (door r b empty (start_with w f)).image
door_bytes (d then q with mem into r) = (door r (door_bytes d) mem q).image
door_bytes (d then_many ps with mem into rs) = (many rs (door_bytes d) mem ps).image

-- the history of those calls whose answer bytes are 32, with the single calls of each batch. A batch that is refused, by the number 10, is no call
abbrev pub history_of : Doors → History
history_of (opened r b w f long ok) = begun b w f ok
history_of (d then q with mem into r) = cond (eqb (length r) 32) (history_of d then q with mem) (history_of d)
history_of (d then_many ps with mem into rs) = cond (no_pairs ps rs) (history_of d) (one_by_one (history_of d) mem (pairs_in ps))

-- ---- the bytes are those of that history; so the next call answers, returns and leaves what the call after that history does, and one whose answer bytes
-- have the wrong length leaves everything as it was
pub record IsStep (d : Doors) (q : Request) (mem : Memory) (r : List ℕ) : Type 0 where
  pub made : length r ≡ 32 → door r (door_bytes d) mem q ≡ written (call (bytes (history_of d)) mem q)
  pub nothing : (length r ≡ 32 → ⊥) → door r (door_bytes d) mem q ≡ record { number = 1; answer = r; image = door_bytes d; memory = mem }

abbrev pub Through : Type 0
Through = (d : Doors) (q : Request) (mem : Memory) (r : List ℕ) → IsStep d q mem r

-- ---- and a batch returns 0 and leaves what its single calls do, one by one after that history: their records, the bytes after them and the memory that the
-- last of them leaves. One that is refused returns 10 and leaves everything as it was
pub record IsBatch (d : Doors) (ps : List ℕ) (mem : Memory) (rs : List ℕ) : Type 0 where
  pub made : no_pairs ps rs ≡ false
      → many rs (door_bytes d) mem ps
      ≡ record {
        number = 0;
        answer = records_of (history_of d) mem (pairs_in ps);
        image = bytes (one_by_one (history_of d) mem (pairs_in ps));
        memory = left_of (history_of d) mem (pairs_in ps);
      }
  pub nothing : no_pairs ps rs ≡ true → many rs (door_bytes d) mem ps ≡ record { number = 10; answer = rs; image = door_bytes d; memory = mem }

abbrev pub Batch : Type 0
Batch = (d : Doors) (ps : List ℕ) (mem : Memory) (rs : List ℕ) → IsBatch d ps mem rs
