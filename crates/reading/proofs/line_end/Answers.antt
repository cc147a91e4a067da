-- Found in what is left of the text, or past its end, where nothing is left.
use Rattle.std.proofs.Common.{arith}
use Rattle.reading.proofs.Ending.{feed_found, no_rest}
use Rattle.reading.proofs.line_end.Goals as goal

pub returns-in-Some : goal.returns-in-Some
returns-in-Some c = feed_found _ _ _ _ _ c.in-Some.ensures.lookup.0.2 c.before_feed.ensures c.unwrap_or.ensures

pub returns-in-None : goal.returns-in-None
returns-in-None c = no_rest _ _ (omega (arith, c.in-None.ensures))
