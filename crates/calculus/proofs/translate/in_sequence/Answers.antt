use Rattle.calculus.proofs.Children.{sequence_goes_on}
use Rattle.calculus.proofs.translate.in_sequence.Goals as goal

pub loop-child-preserved : goal.loop-child-preserved
loop-child-preserved c =
    sequence_goes_on _ _ _ _ _ _ _ c.in-Some.ensures c.len.ensures c.in_ok-left-2.ensures c.loop-child.invariant
