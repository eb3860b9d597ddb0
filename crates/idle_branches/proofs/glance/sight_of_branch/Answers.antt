use Rattle.std.proofs.Common.{List, [], map, sym, ap, ◌∙◌, subst}
use Rattle.syntax.specs.Lists.{In}
use Rattle.process_tree.specs.Proc.{Proc}
use Rattle.process_tree.specs.View.{proc_view, procs_of, tree_view}
use Rattle.process_tree.specs.declared.proc.Proc as made
use Rattle.local_actions.specs.internal.Listed.{listed, listed_parallel}
use Rattle.idle_branches.proofs.SightLemmas.{offered-listed, parallel-view}
use Rattle.idle_branches.proofs.glance.sight_of_branch.Goals as goal

pub returns-in-Parallel : goal.returns-in-Parallel
returns-in-Parallel c tidy values x offer at =
    let whole = tree_view c.args.tree.now in
    let view = sym c.root.ensures ∙ ap proc_view c.in-Parallel.is ∙ parallel-view c.in-Parallel.parts in
    c.sight_among.ensures values [] x
    (subst (λ (xs : List made.Proc). In x (listed_parallel values [] 0 (procs_of (map proc_view xs))).actions)
    (sym c.as_slice.ensures.value)
    (subst (λ (p : Proc). In x (listed values [] p).actions) view (offered-listed values whole x tidy offer)))
    at
