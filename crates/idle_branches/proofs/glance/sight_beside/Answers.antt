use Rattle.std.proofs.Common.{◌≡◌, ◌+◌, ◌-◌, map, arith}
use Rattle.process_tree.specs.View.{proc_view, procs_of}
use Rattle.idle_branches.proofs.SightLemmas.{beside-body, beside-port}
use Rattle.idle_branches.proofs.glance.sight_beside.Goals as goal

pub returns-then-branch-count : goal.returns-then-branch-count
returns-then-branch-count c =
    beside-body (proc_view c.args.body.now) (procs_of (map proc_view c.args.ports.now)) c.args.count c.args.branch
    c.sight_of_child.result c.if-branch-count.true c.sight_of_child.ensures

pub returns-else-has_child : goal.returns-else-has_child
returns-else-has_child c =
    let more : c.args.branch ≡ c.args.count + (c.args.branch - c.args.count) = omega (arith, c.if-branch-count.false) in
    beside-port (proc_view c.args.body.now) (procs_of (map proc_view c.args.ports.now)) c.args.count c.args.branch
    (c.args.branch - c.args.count) c.sight_at.result c.has_child.result more c.if-has_child.false c.has_child.ensures
    c.sight_at.ensures
