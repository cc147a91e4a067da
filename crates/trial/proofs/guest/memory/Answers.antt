-- Ten words.
use Rattle.trial.proofs.Beginning.{ten_words}
use Rattle.trial.proofs.guest.memory.Goals as goal

pub returns : goal.returns
returns c = search ten_words
