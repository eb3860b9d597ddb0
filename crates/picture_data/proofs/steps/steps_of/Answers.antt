use Rattle.std.proofs.Common.{sym, subst}
use Rattle.runs.specs.Live.{Live}
use Rattle.dependence.specs.internal.Tabled.{Placed}
use Rattle.run_depths.proofs.public.Placing.{run-placed}
use Rattle.picture_data.proofs.steps.steps_of.Goals as goal

pub all_since-requires-clause-placed : goal.all_since-requires-clause-placed
all_since-requires-clause-placed c =
    let sound = c.is_sound.ensures.sound in
    subst (λ (l : Live). Placed l) (sym c.live_events-live.ensures.live)
    (run-placed c.args.machine.now.checked c.args.machine.now.live sound.runs.0 1 c.args.machine.now.next sound.runs.1 sound.rising)
