use Rattle.std.proofs.Common.{◌≡◌, List, Some, map, sym, ap, ◌∙◌, subst}
use Rattle.process_tree.specs.Children.{proc_at}
use Rattle.process_tree.specs.Proc.{Proc}
use Rattle.process_tree.specs.View.{proc_view, procs_of}
use Rattle.process_tree.specs.declared.proc.Proc as made
use Rattle.idle_branches.specs.internal.Sights.{IsChild}
use Rattle.idle_branches.proofs.SightLemmas.{child-seen, parallel-view}
use Rattle.idle_branches.proofs.glance.sight_of_child.Goals as goal

pub returns-in-Parallel : goal.returns-in-Parallel
returns-in-Parallel c =
    subst (λ (p : Proc). IsChild p c.args.number c.sight_at.result)
    (sym (ap proc_view c.in-Parallel.is ∙ parallel-view c.in-Parallel.children))
    (child-seen (procs_of (map proc_view c.in-Parallel.children.items)) c.args.number c.sight_at.result
    (λ p at.
    c.sight_at.ensures p
    (subst (λ (xs : List made.Proc). proc_at (procs_of (map proc_view xs)) c.args.number ≡ Some p) (sym c.as_slice.ensures.value) at)))
