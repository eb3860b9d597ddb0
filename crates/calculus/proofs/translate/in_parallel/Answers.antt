use Rattle.calculus.proofs.Children.{parallel_goes_on}
use Rattle.calculus.proofs.translate.in_parallel.Goals as goal

pub loop-child-preserved : goal.loop-child-preserved
loop-child-preserved c =
    parallel_goes_on _ _ _ _ _ _ _ c.in-Some.ensures c.len.ensures c.in_ok-left-2.ensures c.loop-child.invariant
