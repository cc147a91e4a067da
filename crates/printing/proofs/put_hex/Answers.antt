-- A digit and a byte stored behind it; or the digits, and a byte stored behind them.
use native.Mathlib.Omega.{arith}
use lib.ListN.{length-set}
use Rattle.printing.proofs.Putting.{digit_puts, hex_puts}
use borrow.Author.Rules.{rules}
use Rattle.printing.proofs.put_hex.Goals as goal

pub bounds-out-at-then-x-lt16 : goal.bounds-out-at-then-x-lt16
bounds-out-at-then-x-lt16 c = simp length-set (omega arith)

pub returns-then-x-lt16 : goal.returns-then-x-lt16
returns-then-x-lt16 c = (search digit_puts, search rules)

pub returns : goal.returns
returns c = (search hex_puts, search rules)
