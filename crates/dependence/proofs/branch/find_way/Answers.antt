use Rattle.std.proofs.Common.{map, arith}
use Rattle.dependence.specs.internal.Seats.{seat_way}
use Rattle.dependence.proofs.SearchLaws.{split-at, length-places}
use Rattle.dependence.proofs.SeatLaws.{has-within}
use Rattle.dependence.proofs.branch.find_way.Goals as goal

pub returns-then-has_way-clause-splits : goal.returns-then-has_way-clause-splits
returns-then-has_way-clause-splits c =
    let there = c.has_way.ensures.yes c.if-has_way.true in
    let within = has-within c.args.seats.now c.likely_index-likely.result c.args.way.now there in
    let long = length-places seat_way c.args.seats.now in
    split-at (map seat_way c.args.seats.now) c.args.way.now c.likely_index-likely.result c.requires.rising (omega (arith, within, long)) there
