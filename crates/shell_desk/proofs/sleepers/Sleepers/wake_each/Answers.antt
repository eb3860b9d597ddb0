use Rattle.std.proofs.Common.{◌<◌, ◌≤◌, length, arith, refl}
use Rattle.shell_desk.proofs.SleepLemmas.{each-begins, each-ends, each-more}
use Rattle.shell_desk.proofs.sleepers.Sleepers.wake_each.Goals as goal

pub loop-branch-init : goal.loop-branch-init
loop-branch-init c = each-begins c.args.branches.now c.args.self.now.asleep

pub loop-branch-preserved : goal.loop-branch-preserved
loop-branch-preserved c =
    let less : c.loop-branch.branch-index < length c.args.branches.now = omega arith in
    each-more c.args.branches.now c.loop-branch.branch-index _ c.args.self.now.asleep
    c.loop-branch.self.asleep c.wake.new.self less refl c.loop-branch.invariant c.wake.ensures

pub returns : goal.returns
returns c =
    let past : length c.args.branches.now ≤ c.loop-branch.branch-index = omega arith in
    each-ends c.args.branches.now c.loop-branch.branch-index c.args.self.now.asleep c.loop-branch.self.asleep past
    c.loop-branch.invariant
