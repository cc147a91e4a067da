use mathlib.Core.Path.{refl}
use native.Mathlib.Omega.{arith}
use borrow.Author.Rules.{rules}
use Rattle.many.proofs.Pairs.{none_taken, done_none, done_more, done_all}
use Rattle.many.proofs.translate_many.Goals as goal

pub returns-then-no_pairs : goal.returns-then-no_pairs
returns-then-no_pairs c = search none_taken

pub loop-i-init : goal.loop-i-init
loop-i-init c =
    done_none _ _ _ _ _ _ _ c.no_pairs.ensures c.if-no_pairs.false refl c.of-asked.ensures
    (λ j. omega (arith, c.slice_known-1.given j))

pub translate_asked-requires : goal.translate_asked-requires
translate_asked-requires c = (search rules, c.loop-i.invariant.asked)

pub loop-i-preserved : goal.loop-i-preserved
loop-i-preserved c =
    done_more _ _ _ _ _ _ _ _ _ _ c.loop-i.invariant _ _ _ _ _ _ c.loop-i-test.true c.read_word-kind.ensures c.read_word-a.ensures
    c.translate_asked.ensures (search rules) (λ j. omega (arith, c.slice_known-in-loop-i-1.given j))

pub returns : goal.returns
returns c = search done_all
