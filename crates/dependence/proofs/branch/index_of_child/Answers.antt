use Rattle.std.proofs.Common.{◌+◌, arith}
use Rattle.dependence.proofs.ChildLaws.{child-past, child-here}
use Rattle.dependence.proofs.SeatLaws.{has-within}
use Rattle.dependence.proofs.branch.index_of_child.Goals as goal

pub returns-then-has_way : goal.returns-then-has_way
returns-then-has_way c =
    child-past c.args.seats.now c.args.place.now c.args.index c.requires.branch c.requires.index (c.args.index + 1) (omega arith) (c.has_way.ensures.yes c.if-has_way.true)

pub returns-else-has_way : goal.returns-else-has_way
returns-else-has_way c = child-here c.args.seats.now c.args.place.now c.args.index c.requires.branch c.requires.index (c.has_way.ensures.no c.if-has_way.false)

pub overflow_add-result : goal.overflow_add-result
overflow_add-result c =
    let within = has-within c.args.seats.now c.args.index c.args.place.now (c.has_way.ensures.yes c.if-has_way.true) in
    omega arith
