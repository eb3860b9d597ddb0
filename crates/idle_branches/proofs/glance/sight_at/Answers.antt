use Rattle.std.proofs.Common.{sym, ◌∙◌, subst}
use Rattle.runs.proofs.public.Options.{none-some, some-injective}
use Rattle.process_tree.specs.Proc.{Proc}
use Rattle.process_tree.specs.View.{proc_view}
use Rattle.local_actions.proofs.public.GoingDown.{procs-at, procs-end}
use Rattle.idle_branches.specs.internal.Sights.{Sees}
use Rattle.idle_branches.proofs.glance.sight_at.Goals as goal

pub returns-then-index-processes : goal.returns-then-index-processes
returns-then-index-processes c p at =
    let child = c.index-processes-index.result in
    subst (λ (q : Proc). Sees c.sight_of.result q)
    (some-injective (proc_view child) p
    (sym (procs-at c.args.processes.now c.args.number child c.if-index-processes.true c.index-processes-index.is) ∙ at))
    c.sight_of.ensures

pub returns : goal.returns
returns c p at = absurd (none-some p (sym (procs-end c.args.processes.now c.args.number c.if-index-processes.false) ∙ at))
