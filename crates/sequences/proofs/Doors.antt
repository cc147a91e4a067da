-- A call through the door is the call, if the answer bytes are 32, and changes nothing if they are not; and a batch is its single calls, by induction over its
-- pairs. So by induction the image's bytes are those of the history of the calls that count.
use Prim.Native.Nat.{ℕ}
use mathlib.Core.Path.{◌≡◌, refl, ap, ◌∙◌}
use mathlib.Core.Bool.{Bool, true, false, cond}
use mathlib.Core.List.{List, [], ◌∷◌}
use lib.ListN.{length}
use lib.Dec.{eqb}
use Rattle.rules.specs.Memory.{Memory, empty}
use Rattle.rules.specs.Refusals.{start_with}
use Rattle.rules.specs.Calls.{Left, written, call}
use Rattle.rules.specs.Many.{Pair, pairs_in, asks, Made, before, made, no_pairs}
use Rattle.rules.proofs.CallLaws.{door_written, door_refused}
use Rattle.sequences.specs.History.{History, ◌then◌with◌, bytes}
use Rattle.sequences.specs.Doors.{one_by_one, records_of, left_of, Doors, opened, ◌then◌with◌into◌, ◌then_many◌with◌into◌, door_bytes, history_of, Through, Batch}

-- ---- a batch after a history: what its single calls make, each a call of the history
abbrev singles : List Pair → History → Memory → Made
singles ps h mem = record { records = records_of h mem ps; image = bytes (one_by_one h mem ps); memory = left_of h mem ps }

one_by_one_lem : (ps : List Pair) (h : History) (mem : Memory) → made ps (bytes h) mem ≡ singles ps h mem
unfolding made bytes
one_by_one_lem [] h mem = refl
one_by_one_lem (p ∷ ps) h mem =
    ap (before (written (call (bytes h) mem (asks p))).answer) (one_by_one_lem ps (h then asks p with mem) (call (bytes h) mem (asks p)).memory)

-- after bytes that are those of the history
made_after : (ps : List Pair) (b : List ℕ) (h : History) (mem : Memory) → b ≡ bytes h → made ps b mem ≡ singles ps h mem
made_after ps b h mem e = ap (λ (x : List ℕ). made ps x mem) e ∙ one_by_one_lem ps h mem

-- what a batch that is not refused returns and leaves
abbrev answered : Made → Left
answered m = record { number = 0; answer = m.records; image = m.image; memory = m.memory }

-- ---- the bytes after calls through the door
same_bytes : (d : Doors) → door_bytes d ≡ bytes (history_of d)
unfolding bytes
same_bytes (opened r b w f long ok) = ap (λ (o : Left). o.image) (door_written r b empty (start_with w f) long)
same_bytes (d then q with mem into r) = go (eqb (length r) 32) (same_bytes d)
  where
    go : (x : Bool) → door_bytes d ≡ bytes (history_of d)
        → (cond x (written (call (door_bytes d) mem q)) (record { number = 1; answer = r; image = door_bytes d; memory = mem })).image
        ≡ bytes (cond x (history_of d then q with mem) (history_of d))
    go true ih = ap (λ (b : List ℕ). (call b mem q).image) ih
    go false ih = ih
same_bytes (d then_many ps with mem into rs) = go (no_pairs ps rs) (same_bytes d)
  where
    go : (x : Bool) → door_bytes d ≡ bytes (history_of d)
        → (cond x (record { number = 10; answer = rs; image = door_bytes d; memory = mem }) (answered (made (pairs_in ps) (door_bytes d) mem))).image
        ≡ bytes (cond x (history_of d) (one_by_one (history_of d) mem (pairs_in ps)))
    go true ih = ih
    go false ih = ap (λ (m : Made). m.image) (made_after (pairs_in ps) (door_bytes d) (history_of d) mem ih)

pub through : Through
through d q mem r =
    record {
      made = λ long. door_written r (door_bytes d) mem q long ∙ ap (λ (b : List ℕ). written (call b mem q)) (same_bytes d);
      nothing = door_refused r (door_bytes d) mem q;
    }

pub batch : Batch
batch d ps mem rs =
    record {
      made = λ e. rw e (ap answered (made_after (pairs_in ps) (door_bytes d) (history_of d) mem (same_bytes d)));
      nothing = λ e. rw e;
    }
