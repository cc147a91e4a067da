-- Cases that are shown by computation: what lines ask for, and traces line by line with their whole output.
-- A list of cases stands under one claim, that all come out as they should, which is shown by computing both sides.
use Rattle.std.proofs.Common.{◌≡◌, ℕ, Option, Some, None, List, [], ◌∷◌, ◌++◌, map, refl}
use Prim.Native.Char.{code}
use Prim.Native.String.{String, [] as end, ◌∷◌ as ◌then◌}
use Rattle.rules.specs.Image.{encode, decode}
use Rattle.trace.specs.Text.{feed, parted}
use Rattle.trace.specs.Numbers.{value_of, digits, trimmed, hex_of}
use Rattle.trace.specs.Orders.{order_of}
use Rattle.trace.specs.Totals.{count}
use Rattle.trace.specs.Trace.{most, answers, printed_from, output}
use Rattle.trace.specs.declared.Order.{Order}
use Rattle.trace.specs.declared.Order.TheVariants.{Start, Mode, Cr3, Invlpg, Invpcid, Translate, Put}

-- a text's characters are ASCII, each a byte
abbrev bytes_of : String → List ℕ
bytes_of end = []
bytes_of (c then s) = code c ∷ bytes_of s

-- ---- lines
infix 70 ◌asks◌
record Asked : Type 0 where
  line : String
  order : Option Order

abbrev ◌asks◌ : String → Option Order → Asked
◌asks◌ l o = record { line = l; order = o }

abbrev lines : List Asked
lines =
    -- the letters, with their fields in order
    "S\t28" asks Some (Start 0x28)
    ∷ "M\t17" asks Some (Mode 0x17)
    ∷ "C\t1000" asks Some (Cr3 0x1000)
    ∷ "I\t2000" asks Some (Invlpg 0x2000)
    ∷ "V\t1\t2\t3" asks Some (Invpcid 1 2 3)
    ∷ "T\t4\t5" asks Some (Translate 4 5)
    ∷ "P\t8\t6" asks Some (Put 8 6)
    -- digits of either case, leading zeros, 16 digits and 17
    ∷ "T\t01234567\t89ABCDEF" asks Some (Translate 0x1234567 0x89ABCDEF)
    ∷ "T\t0\tabcdef" asks Some (Translate 0 0xABCDEF)
    ∷ "I\tFFFFffffFFFFffff" asks Some (Invlpg 0xFFFFFFFFFFFFFFFF)
    ∷ "I\t0000000000000001" asks Some (Invlpg 1)
    ∷ "I\t00000000000000001" asks None
    ∷ "V\t0000000000000001\t0000000000000002\t0000000000000003" asks Some (Invpcid 1 2 3)
    -- the bytes beside the digits
    ∷ "I\t/" asks None
    ∷ "I\t:" asks None
    ∷ "I\t@" asks None
    ∷ "I\tG" asks None
    ∷ "I\t`" asks None
    ∷ "I\tg" asks None
    ∷ "I\t-1" asks None
    ∷ "I\t0x1" asks None
    -- nothing, and what stands around a line
    ∷ "" asks None
    ∷ "\t" asks None
    ∷ "S\t28\r" asks None
    ∷ "\r" asks None
    ∷ " S\t28" asks None
    ∷ "S\t28 " asks None
    ∷ "S 28" asks None
    ∷ "\tS\t28" asks None
    ∷ "S\t28\t" asks None
    ∷ "S\t\t28" asks None
    ∷ "T\t0\t\t1000" asks None
    ∷ "T\t0\t" asks None
    ∷ "T\t\t0" asks None
    -- no such letter
    ∷ "s\t28" asks None
    ∷ "A\t28" asks None
    ∷ "SS\t28" asks None
    ∷ "83\t28" asks None
    ∷ "\t28" asks None
    -- a field too few
    ∷ "S" asks None
    ∷ "S\t" asks None
    ∷ "T\t0" asks None
    ∷ "P\t8" asks None
    ∷ "V\t0" asks None
    ∷ "V\t0\t0" asks None
    -- a field too many
    ∷ "S\t28\t0" asks None
    ∷ "M\t1\t0" asks None
    ∷ "C\t0\t0" asks None
    ∷ "I\t0\t0" asks None
    ∷ "T\t0\t0\t0" asks None
    ∷ "P\t8\t0\t0" asks None
    ∷ "V\t0\t0\t0\t0" asks None
    ∷ []

pub lines_right : map (λ c. order_of (bytes_of c.line)) lines ≡ map (λ c. c.order) lines
unfolding parted value_of
lines_right = refl

-- ---- traces
infix 70 ◌gives◌
record Given : Type 0 where
  line : String
  printed : String

abbrev ◌gives◌ : String → String → Given
◌gives◌ l p = record { line = l; printed = p }

record Traced : Type 0 where
  lines : List Given
  total : String

abbrev ended : String → List ℕ → List ℕ
ended l bs = bytes_of l ++ (feed ∷ bs)

abbrev input : List Given → List ℕ
input [] = []
input (c ∷ cs) = ended c.line (input cs)

-- the last line lacks its end
abbrev unended : List Given → List ℕ
unended [] = []
unended (c ∷ []) = bytes_of c.line
unended (c ∷ d ∷ cs) = ended c.line (unended (d ∷ cs))

abbrev wanted : List Given → String → List ℕ
wanted [] t = ended t []
wanted (c ∷ cs) t = ended c.printed (wanted cs t)

-- document 02's example
abbrev example : Traced
example =
    record {
      lines = "S\t28" gives "1\tdone\t0\t0\t0" ∷ "M\t1" gives "2\tdone\t0\t0\t0" ∷ "T\t0\t1000" gives "3\tfault\t0\t0\t1" ∷ [];
      total = "total\t0\t0\t1\t0";
    }

-- every kind of line and of answer, with more lines than a digit counts
abbrev long : Traced
long =
    record {
      lines =
          "M\t1" gives "1\trefused\t2\t0\t0"
          ∷ "S\t28" gives "2\tdone\t0\t0\t0"
          ∷ "P\t1000\t2007" gives "3\tdone\t0\t0\t0"
          ∷ "P\t2000\t3007" gives "4\tdone\t0\t0\t0"
          ∷ "P\t3000\t4007" gives "5\tdone\t0\t0\t0"
          ∷ "P\t4000\ta007" gives "6\tdone\t0\t0\t0"
          ∷ "C\t1000" gives "7\tdone\t0\t0\t0"
          ∷ "T\t0\tABC" gives "8\taddress\tabc\t0\t0"
          ∷ "M\t1" gives "9\tdone\t0\t0\t0"
          ∷ "T\t0\tABC" gives "a\taddress\taabc\t1000\t4"
          ∷ "T\t0\t123" gives "b\taddress\ta123\t1000\t0"
          ∷ "P\t4004\t0" gives "c\tbad\t0\t0\t0"
          ∷ "P\t10000\t0" gives "d\tbad\t0\t0\t0"
          ∷ "P\tfff8\t0" gives "e\tdone\t0\t0\t0"
          ∷ "" gives "f\tbad\t0\t0\t0"
          ∷ "I\t0" gives "10\tdone\t0\t0\t0"
          ∷ "T\t0\t123" gives "11\taddress\ta123\t1000\t4"
          ∷ "V\t0\t0\t123" gives "12\tdone\t0\t0\t0"
          ∷ "T\t4\t1000" gives "13\tfault\t6\t0\t4"
          ∷ "T\t0\t800000000000" gives "14\trefused\t5\t0\t0"
          ∷ [];
      total = "total\t4\t1\t1\t2";
    }

abbrev nothing : Traced
nothing = record { lines = []; total = "total\t0\t0\t0\t0" }

abbrev Right : (List Given → List ℕ) → List Traced → Type 0
Right f ts = map (λ t. output (f t.lines)) ts ≡ map (λ t. wanted t.lines t.total) ts

pub traces_right : Right input (example ∷ long ∷ nothing ∷ []) × Right unended (example ∷ [])
unfolding parted value_of digits trimmed count answers printed_from encode decode
traces_right = (refl, refl)

-- the number of the last line that is read
pub last_right : hex_of most ≡ bytes_of "ffffffff"
unfolding digits trimmed
last_right = refl
