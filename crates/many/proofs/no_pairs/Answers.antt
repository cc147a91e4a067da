-- The first two tests together, then the answer bytes.
use Rattle.many.proofs.Pairs.{not_pairs, by_answers}
use Rattle.many.proofs.no_pairs.Goals as goal

pub returns-then-pairs-n : goal.returns-then-pairs-n
returns-then-pairs-n c = search not_pairs

pub returns : goal.returns
returns c = search by_answers
