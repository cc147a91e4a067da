-- Eight stores, one after the other, put the word.
use Rattle.words.proofs.Laws.{put_eight}
use Rattle.words.proofs.write_word.Goals as goal

pub returns : goal.returns
returns c = search put_eight
