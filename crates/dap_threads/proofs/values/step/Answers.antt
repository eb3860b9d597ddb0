use Rattle.std.proofs.Common.{subst, sym}
use Rattle.machine.proofs.public.Standing.{live-at}
use Rattle.runs.specs.Live.{IsLive, Live}
use Rattle.dap_threads.proofs.values.step.Goals as goal

pub first_dependent-requires : goal.first_dependent-requires
first_dependent-requires c =
    subst (λ (l : Live). IsLive l c.args.ticket) (sym c.live_events.ensures.live)
    (c.args.event.now, live-at c.args.machine.now.live c.args.ticket c.args.index c.args.event.now c.requires)
