-- The trial guest of document 01: its 24 KiB, all of them low.
use Rattle.std.specs.Prelude.{ℕ, ◌-◌, ◌*◌, List, [], ◌∷◌, ◌++◌, length, replicate}
use Rattle.rules.specs.Bits.{bytes_of_all}

-- 4,096 bytes that begin with these words
abbrev pub starts_with : List ℕ → List ℕ
starts_with ws = bytes_of_all ws ++ replicate (4096 - 8 * length ws) 0

abbrev pub guest : List ℕ
guest =
    starts_with []
    ++ starts_with (0x2007 ∷ [])
    ++ starts_with (0x3007 ∷ 0x40000083 ∷ [])
    ++ starts_with (0x4007 ∷ 0x600087 ∷ [])
    ++ starts_with (0x5003 ∷ 0x5005 ∷ 0x8000000000005007 ∷ 0 ∷ 0x10000005007 ∷ 0x5107 ∷ [])
    ++ starts_with []
