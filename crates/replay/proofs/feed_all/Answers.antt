use Rattle.replay.proofs.Feeding.{feeding_more, feeding_over, feeding_all}
use Rattle.replay.proofs.feed_all.Goals as goal

pub loop-at-preserved : goal.loop-at-preserved
loop-at-preserved g c =
    feeding_more _ _ _ _ _ _ _ _ _ _ _ _ c.loop-at.invariant _ _ _ _ _ c.loop-at-test.true c.feed-fed.ensures c.feed-fed.auto.image
    c.feed-fed.auto.mem c.feed-fed.auto.out

pub returns-after-loop-at : goal.returns-after-loop-at
returns-after-loop-at g c = search feeding_all

pub returns-then-fed-eq0 : goal.returns-then-fed-eq0
returns-then-fed-eq0 g c =
    feeding_over _ _ _ _ _ _ _ _ _ _ _ _ c.loop-at.invariant _ _ _ _ _ c.loop-at-test.true c.feed-fed.ensures c.if-fed-eq0.true
