-- One more value is put.
use Rattle.std.proofs.Common.{◌≡◌, ◌-◌, suc, get_or, take, ap, ◌∙◌, arith}
use Rattle.system.specs.Residual.{put_residual}
use Rattle.calculus.specs.ResidualTree.{residual_of_tree}
use Rattle.process_tree.specs.Remaining.{puts}
use Rattle.rendezvous.proofs.Rows.{one_put}
use Rattle.rendezvous.proofs.process.put_all.Goals as goal

pub arms-preserved : goal.arms-preserved
arms-preserved c =
    let xs = c.args.received.now in
    let before : suc (c.arms.count - 1) ≡ c.arms.count = omega (arith, c.arms-test.true) in
    let c1 = c.index-received-count.result in
    let d1 = c.index-received-count-in-arms.result in
    let i = c.arms.count - 1 in (
      omega (arith, c.arms.invariant.0),
      ap (puts (take i xs))
          (c.in_ok-left.ensures ∙ ap (λ z. put_residual (get_or xs i c1).0 (get_or xs i d1).1 (residual_of_tree z)) c.get.ensures)
          ∙ one_put xs i c1 d1 (residual_of_tree c.arms.left) (omega (arith, c.arms-test.true, c.arms.invariant.0))
          ∙ ap (λ k. puts (take k xs) (residual_of_tree c.arms.left)) before
          ∙ c.arms.invariant.1,
    )
