use Rattle.std.proofs.Common.{◌∙◌}
use Rattle.object_workers.proofs.Numbers.{deal_next, all_dealt}
use Rattle.object_workers.proofs.threads.deal.Goals as goal

pub loop-number-preserved : goal.loop-number-preserved
loop-number-preserved g c = (
  (c.put_back.ensures.fits.0 ∙ c.loop-number.invariant.0.0, c.put_back.ensures.fits.2 ∙ c.loop-number.invariant.0.1),
  deal_next c.loop-number.number c.args.branches _ _ c.loop-number-test.true c.loop-number.invariant.1 c.put_back.ensures.given,
)

pub returns : goal.returns
returns g c = (c.loop-number.invariant.0, all_dealt c.loop-number.number c.args.branches _ c.loop-number-test.false c.loop-number.invariant.1)
