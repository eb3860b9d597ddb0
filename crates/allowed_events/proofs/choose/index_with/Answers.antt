use Rattle.allowed_events.proofs.FirstChosen.{none-more}
use Rattle.allowed_events.proofs.choose.index_with.Goals as goal

pub loop-i-preserved : goal.loop-i-preserved
loop-i-preserved c =
    none-more c.args.choice.now c.args.events.now c.loop-i.i _ _ c.loop-i.invariant c.loop-i-test.true c.index-events-i.is c.has_choice.ensures
    c.if-has_choice.false
