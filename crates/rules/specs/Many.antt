-- Many addresses in one call: request W-203. Pairs of a kind and an address are translated one by one, in their order.
use Rattle.std.specs.Prelude.{ℕ, zero, suc, ◌+◌, ◌*◌, ◌/◌, ◌%◌, Bool, cond, ◌||◌, not, List, [], ◌∷◌, ◌++◌, length, ltb, eqb}
use Rattle.rules.specs.Bits.{word_at}
use Rattle.rules.specs.Memory.{Memory}
use Rattle.rules.specs.Refusals.{Request, translate}
use Rattle.rules.specs.Calls.{Left, call, written}

-- ---- the pairs: 16 bytes each, the kind and then the address
pub record Pair : Type 0 where
  pub kind : ℕ
  pub address : ℕ

abbrev pub pair_at : List ℕ → ℕ → Pair
pair_at ps i = record { kind = word_at ps (i * 16); address = word_at ps (i * 16 + 8) }

-- n pairs, from the i-th on
unfoldable pub pairs_from : ℕ → ℕ → List ℕ → List Pair
pairs_from zero i ps = []
pairs_from (suc n) i ps = pair_at ps i ∷ pairs_from n (i + 1) ps

abbrev pub pairs_in : List ℕ → List Pair
pairs_in ps = pairs_from (length ps / 16) 0 ps

-- what a pair asks for; AC is not set
abbrev pub asks : Pair → Request
asks p = translate p.kind p.address 0

-- ---- the single calls, one by one: each is given the image and the memory that the one before left. Their records stand one after the other
pub record Made : Type 0 where
  pub records : List ℕ
  pub image : List ℕ
  pub memory : Memory

-- some records, and what is made after them
abbrev pub before : List ℕ → Made → Made
before r m = record { records = r ++ m.records; image = m.image; memory = m.memory }

unfoldable pub made : List Pair → List ℕ → Memory → Made
made [] b mem = record { records = []; image = b; memory = mem }
made (p ∷ ps) b mem =
    let l : Left = written (call b mem (asks p)) in
    before l.answer (made ps l.image l.memory)

-- ---- the call through the door
-- no pairs to take: their bytes are no multiple of 16, there are more than 64, or the answer bytes are not 32 a pair
abbrev pub no_pairs : List ℕ → List ℕ → Bool
no_pairs ps rs = not (eqb (length ps % 16) 0) || ltb 64 (length ps / 16) || not (eqb (length rs) (length ps / 16 * 32))

-- then the number 10 is returned, before all others, and nothing is written anywhere; else 0, and refusals stand in the records
abbrev pub many : List ℕ → List ℕ → Memory → List ℕ → Left
many rs b mem ps =
    let m : Made = made (pairs_in ps) b mem in
    cond (no_pairs ps rs) (record { number = 10; answer = rs; image = b; memory = mem })
    (record { number = 0; answer = m.records; image = m.image; memory = m.memory })
