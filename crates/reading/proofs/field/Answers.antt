use Rattle.std.proofs.Common.{arith}
use Rattle.reading.proofs.Scan.{read_more, read_bad, read_tab, read_end}
use Rattle.reading.proofs.field.Goals as goal
use Rattle.reading.proofs.field.Goals.{else-loop-i-test, then-loop-i-test+in_default, else-i-line-via-then-i-line+else-line-i-ne-TAB, else-i-line-via-else-i-line}

pub loop-i-preserved : goal.loop-i-preserved
loop-i-preserved c = search read_more

pub returns-then-line-i-ne-TAB : goal.returns-then-line-i-ne-TAB
returns-then-line-i-ne-TAB c =
    elim c.loop-i-test.branch [ else-loop-i-test w ↦ absurd (omega arith) | then-loop-i-test+in_default w ↦ search read_bad ]

pub returns : goal.returns
returns c =
    elim c.else-i-line.branch [
      | else-i-line-via-then-i-line+else-line-i-ne-TAB w ↦ search read_tab
      | else-i-line-via-else-i-line w ↦ search read_end
    ]
