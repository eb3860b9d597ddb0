use Rattle.trace_file.proofs.OrderLemmas.{runs-listed}
use Rattle.trace_file.proofs.order.refuse_disorder.Goals as goal

pub refuse_moved-requires-clause-runs : goal.refuse_moved-requires-clause-runs
refuse_moved-requires-clause-runs c = runs-listed c.args.machine.now c.live_events.result.now.live c.live_events.ensures.live c.is_sound.ensures.sound
