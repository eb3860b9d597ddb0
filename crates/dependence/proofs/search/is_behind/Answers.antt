use Rattle.std.proofs.Common.{◌≡◌, ◌≤◌, ◌-◌, suc, length, map, arith}
use Rattle.dependence.proofs.SearchLaws.{all-less, last-not-less, place-read}
use Rattle.dependence.proofs.search.is_behind.Goals as goal

pub returns-clause-all : goal.returns-clause-all
returns-clause-all g c =
    let some : c.args.count ≡ suc (c.args.count - 1) = omega (arith, c.if-count-eq0.false) in
    let within : c.args.count ≤ length c.args.seats.now = c.requires.within in
    all-less (map g.T.Placed.place c.args.seats.now) c.args.place.now c.place-seat.result.now c.args.count (c.args.count - 1) c.is_less.result c.requires.rising
    (place-read g.T.Placed.place c.args.seats.now (c.args.count - 1) c.index-seats-last.result c.place-seat.result.now (omega arith) c.index-seats-last.is c.place-seat.ensures)
    some c.is_less.ensures

pub returns-clause-none : goal.returns-clause-none
returns-clause-none g c =
    let some : c.args.count ≡ suc (c.args.count - 1) = omega (arith, c.if-count-eq0.false) in
    let within : c.args.count ≤ length c.args.seats.now = c.requires.within in
    last-not-less (map g.T.Placed.place c.args.seats.now) c.args.place.now c.place-seat.result.now c.args.count (c.args.count - 1) c.is_less.result c.requires.rising
    (place-read g.T.Placed.place c.args.seats.now (c.args.count - 1) c.index-seats-last.result c.place-seat.result.now (omega arith) c.index-seats-last.is c.place-seat.ensures)
    some c.is_less.ensures
