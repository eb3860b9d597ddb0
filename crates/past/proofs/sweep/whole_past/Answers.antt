use Rattle.std.proofs.Common.{◌∙◌}
use Rattle.past.proofs.Sweeping.{whole-listed}
use Rattle.past.proofs.sweep.whole_past.Goals as goal

pub returns : goal.returns
returns c =
    whole-listed c.args.live.now.live c.args.ticket c.sweep_down.new.events.items c.from_vec.result (c.from_vec.ensures ∙ c.reverse.ensures.items)
    c.in_ok-sweep_down.ensures
