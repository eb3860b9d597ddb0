use Rattle.std.proofs.Common.{◌≤◌, ◌+◌, arith, refl, length}
use Rattle.run_depths.specs.internal.Held.{GreatestOver}
use Rattle.run_depths.proofs.HeldLaws.{reaches-next, read-at}
use Rattle.run_depths.proofs.held.all_reaches.Goals as goal

pub loop-index-preserved : goal.loop-index-preserved
loop-index-preserved c =
    let i = c.loop-index.index in
    let at = read-at c.args.places.now i c.index-places-index.result c.loop-index-test.true c.index-places-index.is in
    let reach = c.longer-reach.result in
    let low : reach.first ≤ i = c.longer-reach.ensures.first in
    let over : GreatestOver c.args.places.now reach.first (i + 1) reach.most =
    c.longer-reach.ensures.most c.args.places.now c.index-places-index.result at refl c.loop-index.invariant.over in
    let up : reach.first ≤ i + 1 = omega arith in
    record {
      first = up;
      over = over;
      reaches = reaches-next c.args.places.now i c.loop-index.reaches.items c.push.new.self.items reach c.loop-index.invariant.reaches low over
          c.in_ok-push.ensures.items;
    }
