-- A fold by `or` is 0 if each byte is.
use borrow.Author.Rules.{rules}
use Rattle.words.proofs.Laws.{all_or}
use Rattle.words.proofs.gather.Goals as goal

pub returns : goal.returns
returns c = all_or c.args.s.now c.fold.result (search rules)
