-- Calls for many addresses, computed to their last byte, as one list under one claim: which are refused as a whole, and that those which are taken leave
-- what the calls one by one leave, pair after pair in their order.
use Prim.Native.Nat.{ℕ, zero, suc, ◌*◌, ◌^◌}
use mathlib.Core.Path.{◌≡◌, refl}
use mathlib.Core.List.{List, [], ◌∷◌, ◌++◌, map}
use lib.ListN.{length, replicate, set}
use Rattle.rules.specs.Bits.{bytes_of_all}
use Rattle.rules.specs.Image.{Image, encode, decode, started}
use Rattle.rules.specs.Memory.{Memory, both, empty}
use Rattle.rules.specs.Buffer.{stored}
use Rattle.rules.specs.Calls.{with_cr3, with_flags, Left}
use Rattle.rules.specs.Many.{pairs_from, made, many}
use Rattle.rules.specs.TrialGuest.{guest}

-- what is lent, and what is left
pub record Batch : Type 0 where
  pub answers : List ℕ
  pub image : List ℕ
  pub memory : Memory
  pub pairs : List ℕ
  pub leaves : Left

-- answer bytes before the call
abbrev room : ℕ → List ℕ
room n = replicate n 0xA5

-- refused as a whole: by the number 10, and everything is as it was
abbrev refuses : ℕ → ℕ → List ℕ → Memory → Batch
refuses n m b mem =
    record {
      answers = room n;
      image = b;
      memory = mem;
      pairs = replicate m 0;
      leaves = record { number = 10; answer = room n; image = b; memory = mem };
    }

-- taken: pairs as words, two each; records as words, four each; and the image and the memory afterwards
abbrev takes : List ℕ → Memory → List ℕ → List ℕ → List ℕ → Memory → Batch
takes b mem ps rs b' mem' =
    record {
      answers = room (8 * length rs);
      image = b;
      memory = mem;
      pairs = bytes_of_all ps;
      leaves = record { number = 0; answer = bytes_of_all rs; image = b'; memory = mem' };
    }

abbrev copies : ℕ → List ℕ → List ℕ
copies zero ws = []
copies (suc n) ws = ws ++ copies n ws

-- no image, an image that is ready for the trial guest, and memory that is not whole pages
abbrev unfit : List ℕ
unfit = replicate 7 0xA5

abbrev ready : Image
ready = with_flags 23 (with_cr3 0x1000 (started 40 0))

abbrev ragged : Memory
ragged = both (replicate 3 0xA5) (replicate 5 0xA5)

abbrev trial : Memory
trial = both guest []

abbrev batches : List Batch
batches =
    -- no pairs at all; bytes that are no whole pairs; answer bytes too few or too many; 65 pairs. Then no pair is made, also where it would fill a slot
    takes unfit ragged [] [] unfit ragged
    ∷ refuses 1 0 unfit ragged
    ∷ refuses 32 15 unfit ragged
    ∷ refuses 32 17 unfit ragged
    ∷ refuses 0 16 unfit ragged
    ∷ refuses 31 16 unfit ragged
    ∷ refuses 33 16 unfit ragged
    ∷ refuses 2080 1040 unfit ragged
    ∷ refuses 32 17 (encode ready) trial
    ∷ refuses 33 16 (encode ready) trial
    ∷ refuses 2080 1040 (encode ready) trial
    -- 64 pairs; refusals pair by pair, each the lowest of its own call, by all eight bytes of the kind and of the address
    ∷ takes unfit ragged (copies 64 (0 ∷ 0 ∷ [])) (copies 64 (2 ∷ 2 ∷ 0 ∷ 0 ∷ [])) unfit ragged
    ∷ takes unfit ragged (0 ∷ 0 ∷ 6 ∷ 0 ∷ []) (2 ∷ 2 ∷ 0 ∷ 0 ∷ 2 ∷ 2 ∷ 0 ∷ 0 ∷ []) unfit ragged
    ∷ takes (encode ready) ragged (0 ∷ 0 ∷ 6 ∷ 0 ∷ []) (2 ∷ 4 ∷ 0 ∷ 0 ∷ 2 ∷ 3 ∷ 0 ∷ 0 ∷ []) (encode ready) ragged
    ∷ takes (encode ready) empty (2 ^ 63 ∷ 0 ∷ 0 ∷ 2 ^ 63 ∷ []) (2 ∷ 3 ∷ 0 ∷ 0 ∷ 2 ∷ 5 ∷ 0 ∷ 0 ∷ []) (encode ready) empty
    -- a miss, a refusal, the same address held by now, a fault
    ∷ takes (encode ready) trial (0 ∷ 0x123 ∷ 6 ∷ 0x123 ∷ 0 ∷ 0x123 ∷ 3 ∷ 0x3000 ∷ [])
    (0 ∷ 0x5123 ∷ 0x1000 ∷ 4 ∷ 2 ∷ 3 ∷ 0 ∷ 0 ∷ 0 ∷ 0x5123 ∷ 0x1000 ∷ 0 ∷ 1 ∷ 4 ∷ 0 ∷ 4 ∷ [])
    (encode (stored 0 (record { tag = 1; datum = 0x5005 }) ready))
    (both (set (set (set (set guest 0x1000 0x27) 0x2000 0x27) 0x3000 0x27) 0x4000 0x23) [])
    ∷ []

abbrev left : Batch → Left
left c = many c.answers c.image c.memory c.pairs

pub all_many : map left batches ≡ map (λ (c : Batch). c.leaves) batches
unfolding encode decode pairs_from made
all_many = refl
