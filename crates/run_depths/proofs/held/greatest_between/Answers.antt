use Rattle.std.proofs.Common.{◌≡◌, ◌<◌, ◌≤◌, ◌+◌, ◌-◌, ℕ, inl, subst, arith}
use Rattle.run_depths.specs.internal.Held.{GreatestOver}
use Rattle.run_depths.proofs.HeldLaws.{over-ended, over-join}
use Rattle.run_depths.proofs.held.greatest_between.Goals as goal

pub loop-end-preserved : goal.loop-end-preserved
loop-end-preserved c =
    let ps = c.args.held.now.places.items in
    let end = c.loop-end.end in
    let test = c.loop-end-test.true in
    let within = c.loop-end.invariant.within in
    let reach = c.reach_from-reach.result in
    let first = c.reach_from-reach.ensures.first in
    let less : reach.first < end - 1 + 1 = c.reach_from-reach.ensures.reach.0 in
    let back : end - 1 + 1 ≡ end = omega arith in
    let over : GreatestOver ps reach.first end reach.most =
    subst (λ (n : ℕ). GreatestOver ps reach.first n reach.most) back c.reach_from-reach.ensures.reach.1 in
    let down : reach.first ≤ end = omega arith in
    let up : reach.first ≤ c.args.high = omega arith in
    record {
      within = up;
      from = inl first;
      over = over-join ps reach.first end c.args.high reach.most c.loop-end.since c.larger-since.result down within over c.loop-end.invariant.over
          c.larger-since.ensures;
    }

pub returns : goal.returns
returns c =
    let past : c.loop-end.end ≤ c.args.low = c.loop-end-test.false in
    over-ended c.args.held.now.places.items c.args.low c.loop-end.end c.args.high c.loop-end.since past c.loop-end.invariant.from c.loop-end.invariant.over
