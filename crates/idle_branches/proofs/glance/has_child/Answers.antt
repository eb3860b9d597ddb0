use Rattle.std.proofs.Common.{◌≤◌, map, length, sym, ap, ◌∙◌, subst, arith}
use Rattle.std.specs.Prelude.{nat_lt}
use Rattle.process_tree.specs.Proc.{Proc}
use Rattle.process_tree.specs.View.{proc_view, procs_of}
use Rattle.local_actions.proofs.public.GoingDown.{procs-end}
use Rattle.idle_branches.specs.internal.Sights.{NoChild}
use Rattle.idle_branches.proofs.SightLemmas.{no-child, not-below, parallel-view}
use Rattle.idle_branches.proofs.glance.has_child.Goals as goal

pub returns-in-Parallel : goal.returns-in-Parallel
returns-in-Parallel c =
    let items = c.in-Parallel.children.items in
    let has = nat_lt c.args.number c.len.result in
    subst (λ (p : Proc). NoChild p c.args.number has) (sym (ap proc_view c.in-Parallel.is ∙ parallel-view c.in-Parallel.children))
    (no-child (procs_of (map proc_view items)) c.args.number has
    (λ no.
    let past : c.len.result ≤ c.args.number = not-below c.args.number c.len.result no in
    let all : length items ≤ c.args.number = omega (arith, past, c.len.ensures) in
    procs-end items c.args.number all))
