-- What is all zero stays so.
use Rattle.drops.proofs.DropWays.{block_passed}
use Rattle.drops.proofs.drop_block.Goals as goal

pub returns-then-is_bare : goal.returns-then-is_bare
returns-then-is_bare c = search block_passed
