-- By the order: a call and its record.
use Rattle.lines.proofs.Doing.{called}
use Rattle.lines.proofs.perform.Goals as goal

pub returns-in-Mode : goal.returns-in-Mode
returns-in-Mode c = rw c.in-Mode.is (called _ _ _ _ _ _ _ c.write_mode.ensures c.write_record-in-Mode.ensures)

pub returns-in-Cr3 : goal.returns-in-Cr3
returns-in-Cr3 c = rw c.in-Cr3.is (called _ _ _ _ _ _ _ c.write_cr3.ensures c.write_record-in-Cr3.ensures)

pub returns-in-Invlpg : goal.returns-in-Invlpg
returns-in-Invlpg c = rw c.in-Invlpg.is (called _ _ _ _ _ _ _ c.invlpg.ensures c.write_record-in-Invlpg.ensures)

pub returns-in-Invpcid : goal.returns-in-Invpcid
returns-in-Invpcid c = rw c.in-Invpcid.is (called _ _ _ _ _ _ _ c.invpcid.ensures c.write_record-in-Invpcid.ensures)
