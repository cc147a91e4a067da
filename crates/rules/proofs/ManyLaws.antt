-- A call for many addresses, as code makes it: turn by turn, a record of 32 bytes each. And for a given input there is one outcome.
use Prim.Native.Nat.{ℕ, suc, ◌+◌, ◌-◌, ◌<◌}
use mathlib.Core.Path.{◌≡◌, sym, ◌∙◌}
use mathlib.Core.List.{List}
use native.Mathlib.Omega.{arith}
use lib.ListN.{length}
use Rattle.rules.specs.Memory.{Memory}
use Rattle.rules.specs.Answers.{numbers}
use Rattle.rules.specs.Calls.{Left, call, written}
use Rattle.rules.specs.Many.{Pair, pair_at, pairs_from, asks, before, made, many}
use Rattle.rules.proofs.AnswerLaws.{record_length}

pub one_many : (rs b : List ℕ) (mem : Memory) (ps : List ℕ) (o o' : Left) → o ≡ many rs b mem ps → o' ≡ many rs b mem ps → o ≡ o'
one_many rs b mem ps o o' h g = h ∙ sym g

-- of n pairs i are done: the next one is made before the rest, which are given what it leaves
pub one_pair : (n i : ℕ) (ps b : List ℕ) (mem : Memory) → i < n
    → made (pairs_from (n - i) i ps) b mem
    ≡ before (written (call b mem (asks (pair_at ps i)))).answer
    (made (pairs_from (n - (i + 1)) (i + 1) ps) (call b mem (asks (pair_at ps i))).image (call b mem (asks (pair_at ps i))).memory)
unfolding made pairs_from
one_pair n i ps b mem h = let e : n - i ≡ suc (n - (i + 1)) = omega arith in rw e

pub record_long : (b : List ℕ) (mem : Memory) (p : Pair) → length (written (call b mem (asks p))).answer ≡ 32
record_long b mem p = record_length (numbers (call b mem (asks p)).answer)
