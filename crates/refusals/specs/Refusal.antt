-- The numbers by which the host is told of refusals.
use Rattle.std.specs.Prelude.{ℕ, Result, Ok, Err}
use Rattle.refusals.specs.declared.refusal.Refusal.{Refusal}
use Rattle.refusals.specs.declared.refusal.Refusal.TheVariants.{Record, Image, Kind, Memory, Address, Cr3, Mode, Invpcid, Pairs}

abbrev pub number_of : Refusal → ℕ
number_of Record = 1
number_of Image = 2
number_of Kind = 3
number_of Memory = 4
number_of Address = 5
number_of Cr3 = 6
number_of Mode = 7
number_of Invpcid = 8
number_of Pairs = 10

-- 0 is told of a call that is not refused
abbrev pub told : {T : Type 0} → Result T Refusal → ℕ
told (Ok _) = 0
told (Err r) = number_of r
