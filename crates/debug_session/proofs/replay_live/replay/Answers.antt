use Rattle.debug_session.proofs.public.ReplayLemmas.{replays}
use Rattle.debug_session.proofs.replay_live.replay.Goals as goal

pub returns : goal.returns
returns c =
    replays (λ v. v.items) c.args.checked c.args.trace.now c.in_ok-machine.machine c.live_on-answer.result c.in_ok-machine.ensures
    c.live_on-answer.ensures
