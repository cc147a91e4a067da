-- The loop's invariant: what was or-ed so far is above the limit exactly if one of the counts or the repeats passed is.
use mathlib.Core.Path.{◌≡◌}
use mathlib.Core.Bool.{◌||◌}
use lib.Dec.{ltb}
use Rattle.journal.specs.Journal.{limit, decode}
use Rattle.journal.specs.Calls.{is_over}
use Rattle.journal.proofs.gather.Given as goal

abbrev pub invariant-loop-i : goal.invariant-loop-i
invariant-loop-i l = ltb limit l.acc ≡ (ltb limit l.counts || is_over l.i (decode l.journal).records)
