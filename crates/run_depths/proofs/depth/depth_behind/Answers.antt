use Rattle.std.proofs.Common.{◌<◌, length, rules, arith}
use Rattle.run_depths.proofs.depth.depth_behind.Goals as goal

pub bounds-depths-index : goal.bounds-depths-index
bounds-depths-index c = c.requires.known c.in-Some.index c.in-Some.ensures

pub offset_bounds-depths-index : goal.offset_bounds-depths-index
offset_bounds-depths-index c =
    let within : c.in-Some.index < length c.args.depths.now = c.requires.known c.in-Some.index c.in-Some.ensures in search rules

pub returns-clause-small : goal.returns-clause-small
returns-clause-small c =
    let within = c.requires.known c.in-Some.index c.in-Some.ensures in
    let small = c.requires.small c.in-Some.index within in
    omega arith
