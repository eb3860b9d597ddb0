use Rattle.std.proofs.Common.{arith}
use Rattle.dependence.proofs.public.ListPlaces.{in-read}
use Rattle.run_depths.proofs.SinceLaws.{greatest-all, greatest-next}
use Rattle.run_depths.proofs.since.greatest_behind.Goals as goal

pub depth_after-requires-clause-inside : goal.depth_after-requires-clause-inside
depth_after-requires-clause-inside c = c.requires.inside _ (in-read c.args.found.now c.loop-index.index-index c.loop-index-test.true)

pub loop-index-preserved : goal.loop-index-preserved
loop-index-preserved c =
    let small = c.loop-index.invariant.small in
    let other = c.depth_after.ensures.small in
    let most = c.larger-since.ensures in
    record {
      greatest = greatest-next c.args.depths.now c.args.found.now c.loop-index.index-index c.loop-index.since c.depth_after.result c.larger-since.result
          c.loop-index-test.true c.loop-index.invariant.greatest c.depth_after.ensures.depth most;
      small = omega arith;
    }

pub returns : goal.returns
returns c =
    greatest-all c.args.depths.now c.args.found.now c.loop-index.index-index c.loop-index.since c.loop-index-test.false c.loop-index.invariant.greatest
