-- A digit of ten, a letter in one of the two cases, or neither.
use Rattle.reading.proofs.Digits.{digit_decimal, digit_letter, digit_none}
use Rattle.reading.proofs.digit.Goals as goal

pub returns-then-x : goal.returns-then-x
returns-then-x c = search digit_decimal

pub returns-then-upper : goal.returns-then-upper
returns-then-upper c = search digit_letter

pub returns : goal.returns
returns c = search digit_none
