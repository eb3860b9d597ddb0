use Rattle.std.proofs.Common.{List, subst}
use Rattle.runs.specs.Moves.{Place}
use Rattle.local_actions.specs.View.{state_of}
use Rattle.local_actions.specs.declared.action.LocalAction.{LocalAction}
use Rattle.idle_branches.specs.Idle.{HasBehind}
use Rattle.shell_desk.specs.internal.Sleeping.{SleepButFaced}
use Rattle.shell_desk.proofs.SleepLemmas.{faced-all-woken, faced-woken, state-formed}
use Rattle.shell_desk.proofs.sleepers.Sleepers.wake_offered_at.Goals as goal

pub returns-in-Ok : goal.returns-in-Ok
returns-in-Ok c =
    let S = state_of c.state.result.0.now c.state.result.1.now in
    let sound = c.is_sound.ensures.sound in
    let here = c.state.ensures.reaches in
    faced-woken c.args.ends.now c.args.machine.now c.args.place.now S c.in-Ok.offers c.args.self.now.asleep
    c.wake_faced.new.self.asleep sound here
    (subst (λ (a : Place). HasBehind S a c.in-Ok.offers) c.entries.ensures
    (c.in-Ok.ensures c.state.ensures.tidy (state-formed c.args.machine.now S sound here)))
    (subst (λ (offers : List LocalAction). SleepButFaced c.args.ends.now offers c.args.self.now.asleep
    c.wake_faced.new.self.asleep) c.as_slice.ensures c.wake_faced.ensures)

pub returns-in-Err : goal.returns-in-Err
returns-in-Err c =
    faced-all-woken c.args.ends.now c.args.machine.now c.args.place.now c.args.self.now.asleep
    c.wake_all.new.self c.wake_all.ensures
