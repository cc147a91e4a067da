-- The bytes that there is room for stand behind those that were kept.
use Rattle.std.proofs.Common.{rules}
use Rattle.runs.proofs.Keeping.{kept_all}
use Rattle.runs.proofs.keep.Goals as goal

pub returns : goal.returns
returns c = search (rules, kept_all)
