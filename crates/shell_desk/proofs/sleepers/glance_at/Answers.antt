use Rattle.std.proofs.Common.{◌≡◌, Some, sym, ◌∙◌, subst}
use Rattle.system.specs.declared.system.System.{System}
use Rattle.system_places.specs.SystemBranches.{branch_at}
use Rattle.runs.specs.Live.{events}
use Rattle.runs.specs.Steps.{Run, opening}
use Rattle.local_actions.specs.View.{state_of}
use Rattle.idle_branches.specs.Glance.{Tells}
use Rattle.idle_branches.specs.Idle.{AreEnds}
use Rattle.shell_desk.proofs.SleepLemmas.{faces-now, tells-now}
use Rattle.shell_desk.proofs.sleepers.glance_at.Goals as goal

pub returns-clause-rests : goal.returns-clause-rests
returns-clause-rests c =
    let m = c.args.machine.now in
    let S = state_of c.state.result.0.now c.state.result.1.now in
    let same = c.system.ensures ∙ c.checked.ensures in
    tells-now c.glance_of.result c.args.ends.now m c.args.branch S c.is_sound.ensures.sound c.state.ensures.reaches
    (λ are.
    subst (λ (s : System). Tells c.glance_of.result s S c.args.branch) same
    (c.glance_of.ensures.rests c.state.ensures.tidy (events m.live) c.state.result.1.now
    (subst (λ (s : System). AreEnds s c.args.ends.now) (sym same) are)
    (subst (λ (s : System). Run (opening s) (events m.live) S) (sym same) c.state.ensures.reaches)))

pub returns-clause-faced : goal.returns-clause-faced
returns-clause-faced c a at =
    let m = c.args.machine.now in
    let S = state_of c.state.result.0.now c.state.result.1.now in
    let same = c.system.ensures ∙ c.checked.ensures in
    faces-now c.glance_of.result m a S c.is_sound.ensures.sound c.state.ensures.reaches
    (λ x offered behind.
    c.glance_of.ensures.faced c.state.ensures.tidy c.state.result.1.now a x offered behind
    (subst (λ (s : System). branch_at s a ≡ Some c.args.branch) (sym same) at))
