use Rattle.std.proofs.Common.{subst}
use Rattle.runs.specs.Live.{Live, LiveAt, NoneAt}
use Rattle.dap_requests.proofs.Forward.{found_live}
use Rattle.dap_requests.proofs.backward.live_event.Goals as goal

pub returns-in-Some-pair_at : goal.returns-in-Some-pair_at
returns-in-Some-pair_at c =
    subst (λ (l : Live). LiveAt l c.args.ticket c.in-Some-pair_at.event.now) c.live_events-live.ensures.live
    (found_live c.live_events-live.result.now.live c.args.ticket _ c.in-Some.index c.in-Some.ensures.0 c.in-Some-pair_at.event.now
    c.in-Some.ensures.1 c.in-Some-pair_at.ensures)

pub returns-in-None : goal.returns-in-None
returns-in-None c = subst (λ (l : Live). NoneAt l c.args.ticket) c.live_events-live.ensures.live c.in-None.ensures
