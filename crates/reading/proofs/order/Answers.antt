-- One law a way out: the line is too short, its second byte is no tab, a field is bad, or the line ends after its first, second or third number, or later.
use Rattle.std.proofs.Common.{◌∙◌}
use Rattle.reading.proofs.Ordering.{line_short, line_joined, first_bad, one_number, second_bad, two_numbers, third_bad, three_numbers, too_many}
use Rattle.reading.proofs.order.Goals as goal

pub returns-then-line-lt2 : goal.returns-then-line-lt2
returns-then-line-lt2 c = search line_short

pub returns-then-line-ne-TAB : goal.returns-then-line-ne-TAB
returns-then-line-ne-TAB c = search line_joined

pub returns-in_err-x : goal.returns-in_err-x
returns-in_err-x c =
    c.from_residual.ensures ∙ first_bad _ c.if-line-lt2.false c.if-line-ne-TAB.false _ c.field.ensures c.in_err-x.was

pub returns-then-line-x : goal.returns-then-line-x
returns-then-line-x c = search (one_number, c.in_ok-x.was)

pub returns-in_err-y : goal.returns-in_err-y
returns-in_err-y c =
    c.from_residual-in_err-y.ensures
    ∙ second_bad _ c.if-line-lt2.false c.if-line-ne-TAB.false _ c.field.ensures _ c.in_ok-x.was c.if-line-x.false _ c.field-2.ensures c.in_err-y.was

pub returns-then-line-y : goal.returns-then-line-y
returns-then-line-y c =
    two_numbers _ c.if-line-lt2.false c.if-line-ne-TAB.false _ c.field.ensures _ c.in_ok-x.was c.if-line-x.false _ c.field-2.ensures _ c.in_ok-y.was _
    c.if-line-y.true c.with_two.ensures

pub returns-in_err-z : goal.returns-in_err-z
returns-in_err-z c =
    c.from_residual-in_err-z.ensures
    ∙ third_bad _ c.if-line-lt2.false c.if-line-ne-TAB.false _ c.field.ensures _ c.in_ok-x.was c.if-line-x.false _ c.field-2.ensures _ c.in_ok-y.was
    c.if-line-y.false _ c.field-3.ensures c.in_err-z.was

pub returns-then-line-z : goal.returns-then-line-z
returns-then-line-z c =
    three_numbers _ c.if-line-lt2.false c.if-line-ne-TAB.false _ c.field.ensures _ c.in_ok-x.was c.if-line-x.false _ c.field-2.ensures _ c.in_ok-y.was
    c.if-line-y.false _ c.field-3.ensures _ c.in_ok-z.was _ c.if-line-z.true c.with_three.ensures

pub returns : goal.returns
returns c =
    too_many _ c.if-line-lt2.false c.if-line-ne-TAB.false _ c.field.ensures _ c.in_ok-x.was c.if-line-x.false _ c.field-2.ensures _ c.in_ok-y.was
    c.if-line-y.false _ c.field-3.ensures _ c.in_ok-z.was c.if-line-z.false
