use Rattle.std.proofs.Common.{◌∙◌}
use Rattle.elaborate.proofs.Sizes.{sizes_more}
use Rattle.elaborate.proofs.count.sizes_of.Goals as goal

pub loop-procedure-preserved : goal.loop-procedure-preserved
loop-procedure-preserved c =
    rw c.in_ok-push.ensures.items
    (sizes_more c.args.procedures.now c.loop-procedure.procedure-index c.procedure-item.result c.loop-procedure.sizes.items c.size_of_procedure-size.result
    c.loop-procedure-test.true c.procedure-item.is (rw c.as_slice.ensures.value at c.size_of_procedure-size.ensures)
    ∙ c.loop-procedure.invariant)
