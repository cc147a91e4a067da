-- The totals, as counts in the list of answers. Bad lines are in none.
use Rattle.std.specs.Prelude.{ℕ, ◌+◌, ◌%◌, ◌^◌, Bool, not, ◌&&◌, List, [], ◌∷◌, ◌==◌}
use Rattle.rules.specs.Bits.{one}
use Rattle.rules.specs.Answers.{Words}
use Rattle.trace.specs.declared.Totals.{Totals}

abbrev pub is_address : Words → Bool
is_address w = w.kind == 0

-- an address with paging on, which in the list of answers is a page size other than 0, and no entry read
abbrev pub is_hit : Words → Bool
is_hit w = is_address w && not (w.size == 0) && w.read == 0

abbrev pub is_fault : Words → Bool
is_fault w = w.kind == 1

abbrev pub is_refused : Words → Bool
is_refused w = w.kind == 2

-- how many of a list are so
unfoldable pub count : (Words → Bool) → List Words → ℕ
count f [] = 0
count f (w ∷ ws) = one (f w) + count f ws

abbrev pub totals_of : List Words → Totals
totals_of ws = record { addresses = count is_address ws; hits = count is_hit ws; faults = count is_fault ws; refused = count is_refused ws }

-- ---- the record as it is kept, in words of 64 bits: one answer more
abbrev pub more : Bool → ℕ → ℕ
more b n = (n + one b) % 2 ^ 64

abbrev pub counted : Totals → Words → Totals
counted t w =
    record {
      addresses = more (is_address w) t.addresses;
      hits = more (is_hit w) t.hits;
      faults = more (is_fault w) t.faults;
      refused = more (is_refused w) t.refused;
    }

abbrev pub no_totals : Totals
no_totals = record { addresses = 0; hits = 0; faults = 0; refused = 0 }
