-- A call that is lent no guest memory, whose answer is written as its record.
use Rattle.std.proofs.Common.{ℕ, List, [], ap, ◌∙◌}
use Rattle.rules.specs.Answers.{numbers, record_bytes}
use Rattle.rules.specs.Refusals.{Request}
use Rattle.rules.specs.Memory.{both}
use Rattle.rules.specs.Calls.{Outcome}
use Rattle.rules.specs.declared.Answer.{Answer}
use Rattle.records.specs.Record.{Recorded}
use Rattle.translator.specs.Contract.{Leaves}
use Rattle.trace.specs.Does.{Low, calls}
use Rattle.lines.specs.Line.{Gives}

pub called : (q : Request) (b b' : List ℕ) (mem : Low) (a : Answer) (r' : List ℕ) (n : ℕ) → Leaves q b b' a → Recorded a r' n → Gives (calls b mem q) r' b' mem
called q b b' mem a r' n l d =
    record {
      answer = d.words.bytes ∙ ap (λ (o : Outcome). record_bytes (numbers o.answer)) (l.outcome (both mem []));
      image = ap (λ (o : Outcome). o.image) (l.outcome (both mem []));
      memory = ap (λ (o : Outcome). o.memory.low) (l.outcome (both mem []));
    }
