use Rattle.std.proofs.Common.{◌<◌, ◌≤◌, length, arith}
use Rattle.system.specs.Translation.{residual_of}
use Rattle.idle_branches.proofs.GatherLemmas.{here-of, parts-done, parts-on}
use Rattle.idle_branches.proofs.ends.Ends.add_children.Goals as goal

pub loop-child-preserved : goal.loop-child-preserved
loop-child-preserved c = λ after more.
    let xs = c.args.children.now in
    let i = c.loop-child.child-index in
    let less : i < length xs = omega arith in
    c.loop-child.invariant after
    (parts-on residual_of xs i c.child-item.result c.loop-child.self c.add_branch.new.self
    (here-of xs i c.child-item.result less c.child-item.is) c.in_ok-add_branch.ensures after more)

pub returns : goal.returns
returns c =
    let past : length c.args.children.now ≤ c.loop-child.child-index = omega arith in
    c.loop-child.invariant c.loop-child.self (parts-done residual_of c.args.children.now c.loop-child.child-index c.loop-child.self past)
