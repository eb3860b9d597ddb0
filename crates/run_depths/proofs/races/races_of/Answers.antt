use Rattle.std.proofs.Common.{length, ap, arith}
use Rattle.runs.specs.Live.{Live}
use Rattle.dependence.proofs.public.Turns.{turn, turn-within, ended}
use Rattle.run_depths.proofs.RaceLaws.{all-races}
use Rattle.run_depths.proofs.races.races_of.Goals as goal

pub add_races-requires-clause-stands : goal.add_races-requires-clause-stands
add_races-requires-clause-stands c =
    turn _ _ _ _ c.loop-index.yielded _ _ c.iter-ticket-items.ensures.events c.loop-index.invariant.counted c.loop-index.yielded_by c.in-Some.ensures.steps

pub overflow_step-index : goal.overflow_step-index
overflow_step-index c =
    let within =
    turn-within _ _ _ _ c.loop-index.yielded _ _ c.iter-ticket-items.ensures.events c.loop-index.invariant.counted c.loop-index.yielded_by
    c.in-Some.ensures.steps in
    let same = ap (λ (l : Live). length l) c.iter-ticket-items.ensures.events in
    let fits = c.iter-ticket-items.ensures.fits in
    omega arith

pub returns : goal.returns
returns c =
    let counted = c.loop-index.invariant.counted in
    let size = ended _ _ _ c.loop-index.yielded c.iter-ticket-items.ensures.events c.loop-index.yielded_by c.in-None.ensures.steps.0 in
    all-races c.args.live.now.live c.loop-index.index c.loop-index.races.items (omega arith) c.loop-index.invariant.races
