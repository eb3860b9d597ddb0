use Rattle.std.proofs.Common.{◌≡◌, ◌∙◌, List, sym, subst}
use Rattle.runs.specs.Steps.{State}
use Rattle.runs.specs.Ready.{ReadyList}
use Rattle.runs.specs.declared.event.Event.{Event}
use Rattle.dap_views.proofs.sight.sight_of.Goals as goal

pub returns : goal.returns
returns c =
    let actions = c.in_ok-actions.ensures in
    let events : List Event = c.in_ok-ready.ready in
    let ready = c.in_ok-ready.ensures in
    let one = c.is_sound.ensures.one_state in
    let same : ready.0 ≡ actions.0 = one.2 ready.0 ready.1 ∙ sym (one.2 actions.0 actions.1) in
    let list : ReadyList actions.0 events = subst (λ (T : State). ReadyList T events) same ready.2 in
    (actions.0, actions.1, actions.2, list)
