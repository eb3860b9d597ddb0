use Rattle.std.proofs.Common.{◌<◌, ◌+◌, length, arith}
use Rattle.run_depths.proofs.HeldLaws.{over-one, read-at}
use Rattle.run_depths.proofs.held.reach_from.Goals as goal

pub returns-then-low-reach-clause-reach : goal.returns-then-low-reach-clause-reach
returns-then-low-reach-clause-reach c =
    let rs = c.args.held.now.reaches.items in
    let size = c.requires.order.reaches.size in
    let inside = c.requires.inside in
    let within : c.args.last < length rs = omega arith in
    c.requires.order.reaches.each c.args.last c.index-reach.result.now (read-at rs c.args.last c.index-reach.result.now within c.index-reach.ensures)

pub returns-clause-reach : goal.returns-clause-reach
returns-clause-reach c =
    let ps = c.args.held.now.places.items in
    let less : c.args.last < c.args.last + 1 = omega arith in
    (less, over-one ps c.args.last c.index.result.now (read-at ps c.args.last c.index.result.now c.requires.inside c.index.ensures))
