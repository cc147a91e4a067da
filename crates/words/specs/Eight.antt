-- Eight bytes of a slice, each at its own weight: the word as the code adds it up.
use Rattle.std.specs.Prelude.{ℕ, ◌+◌, ◌*◌, List, get_or}

abbrev pub eight_at : List ℕ → ℕ → ℕ
eight_at b at =
    get_or b at 0
    + get_or b (at + 1) 0 * 0x100
    + get_or b (at + 2) 0 * 0x10000
    + get_or b (at + 3) 0 * 0x1000000
    + get_or b (at + 4) 0 * 0x100000000
    + get_or b (at + 5) 0 * 0x10000000000
    + get_or b (at + 6) 0 * 0x1000000000000
    + get_or b (at + 7) 0 * 0x100000000000000
