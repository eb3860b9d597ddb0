use Rattle.std.proofs.Common.{◌≡◌, ℕ, ◌+◌, ◌-◌, None, map, sym, subst, arith}
use Rattle.system.specs.declared.system.System.{System}
use Rattle.system_places.specs.SystemBranches.{parallel_of}
use Rattle.process_tree.specs.Proc.{proc}
use Rattle.process_tree.specs.View.{proc_view, procs_of}
use Rattle.idle_branches.specs.internal.Sights.{IsBranch}
use Rattle.idle_branches.proofs.SightLemmas.{alone-body, alone-port}
use Rattle.idle_branches.proofs.glance.sight_alone.Goals as goal

pub returns-then-branch-eq0 : goal.returns-then-branch-eq0
returns-then-branch-eq0 c =
    let body = proc_view c.args.body.now in
    let ports = procs_of (map proc_view c.args.ports.now) in
    subst (λ (k : ℕ). (system : System) → parallel_of system.main ≡ None → IsBranch system (proc body ports) k c.sight_of.result)
    (sym c.if-branch-eq0.true) (alone-body body ports c.sight_of.result c.sight_of.ensures)

pub returns-else-branch-eq0 : goal.returns-else-branch-eq0
returns-else-branch-eq0 c =
    let more : c.args.branch ≡ (c.args.branch - 1) + 1 = omega (arith, c.if-branch-eq0.false) in
    alone-port (proc_view c.args.body.now) (procs_of (map proc_view c.args.ports.now)) c.args.branch (c.args.branch - 1)
    c.sight_at.result more c.sight_at.ensures
