use Rattle.std.proofs.Common.{◌≡◌, ◌<◌, ◌≤◌, ◌∙◌, length, sym, arith, true≢false}
use Rattle.dependence.specs.LastEvents.{LastUse}
use Rattle.rings.proofs.Tallied.{lowered, puts-both, puts-not, puts-one}
use Rattle.rings.proofs.counts.lower.Goals as goal

pub groups-preserved-in-Continue-branch-2 : goal.groups-preserved-in-Continue-branch-2
groups-preserved-in-Continue-branch-2 c =
    let last : LastUse c.args.edges.now c.in_ok-row.row c.groups.below c.in-Some.found = c.in-Some.ensures in
    let less : c.in-Some.found < c.groups.below = last.less in
    let upto : c.groups.below ≤ length c.args.counts.now.items = c.groups.invariant.0 in
    let before : length c.args.counts.now.items ≡ length c.groups.counts.items = c.groups.invariant.1.size in
    let after : length c.groups.counts.items ≡ length c.take_one.new.counts.items = c.take_one.ensures.less.size in (
      omega (arith, less, upto),
      lowered c.args.edges.now c.args.number c.in_ok-row.row c.groups.below c.in-Some.found c.in_ok-row.ensures last c.args.counts.now.items c.groups.counts.items
          c.take_one.new.counts.items c.groups.invariant.1 c.take_one.ensures.less,
      puts-both c.args.waiters.now c.args.limit c.args.counts.now.items c.groups.counts.items c.take_one.new.counts.items c.args.todo.now.items c.groups.todo.items
          c.add_waiters.new.todo.items c.groups.invariant.2
          (puts-one c.args.waiters.now c.args.limit c.in-Some.found c.take_one.new.counts.items c.groups.counts.items c.groups.todo.items c.add_waiters.new.todo.items
          (omega (arith, less, upto, before, after)) c.take_one.ensures.less c.in_ok-add_waiters.ensures),
    )

pub groups-preserved : goal.groups-preserved
groups-preserved c =
    let last : LastUse c.args.edges.now c.in_ok-row.row c.groups.below c.in-Some.found = c.in-Some.ensures in
    let less : c.in-Some.found < c.groups.below = last.less in
    let upto : c.groups.below ≤ length c.args.counts.now.items = c.groups.invariant.0 in
    let before : length c.args.counts.now.items ≡ length c.groups.counts.items = c.groups.invariant.1.size in
    let after : length c.groups.counts.items ≡ length c.take_one.new.counts.items = c.take_one.ensures.less.size in (
      omega (arith, less, upto),
      lowered c.args.edges.now c.args.number c.in_ok-row.row c.groups.below c.in-Some.found c.in_ok-row.ensures last c.args.counts.now.items c.groups.counts.items
          c.take_one.new.counts.items c.groups.invariant.1 c.take_one.ensures.less,
      puts-both c.args.waiters.now c.args.limit c.args.counts.now.items c.groups.counts.items c.take_one.new.counts.items c.args.todo.now.items c.groups.todo.items
          c.groups.todo.items c.groups.invariant.2
          (puts-not c.args.waiters.now c.args.limit c.in-Some.found c.take_one.new.counts.items c.groups.counts.items c.groups.todo.items (omega (arith, less, upto, before, after)) c.take_one.ensures.less
          (λ zero_left. true≢false (sym (c.take_one.ensures.none.1 zero_left) ∙ c.if-take_one.false))),
    )
