-- The page of a part that has it.
use Prim.Native.Nat.{ℕ, ◌+◌, ◌-◌, ◌*◌, ◌/◌, ◌<◌}
use mathlib.Core.Path.{◌≡◌}
use mathlib.Core.List.{List}
use native.Mathlib.Nat.{add-sub_cancel_left}
use lib.ListN.{length, take, drop}
use borrow.Author.Tests.{lt-ltb}
use Rattle.rules.specs.Memory.{page_of_part}

pub there : (part : List ℕ) (at : ℕ) → at / 4096 < length part / 4096
    → take (at / 4096 * 4096 + 4096 - at / 4096 * 4096) (drop (at / 4096 * 4096) part) ≡ page_of_part part at
there part at h = simp (lt-ltb _ _ h, add-sub_cancel_left)
