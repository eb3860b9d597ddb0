use Rattle.std.proofs.Common.{◌<◌, ◌≤◌, length, sym, ◌∙◌, true≢false, arith}
use Rattle.dependence.proofs.SeatLaws.{has-at, has-is, has-within}
use Rattle.dependence.proofs.branch.has_way.Goals as goal

pub returns-in-Some-clause-yes : goal.returns-in-Some-clause-yes
returns-in-Some-clause-yes c = λ holds.
    let seat = c.in-Some.ensures.lookup in
    has-at c.args.seats.now c.args.index c.in-Some.seat.now c.args.way.now seat.3.0 seat.1
    (sym c.way.ensures ∙ c.is_same.ensures.0 holds)

pub returns-in-Some-clause-no : goal.returns-in-Some-clause-no
returns-in-Some-clause-no c = λ fails there.
    let seat = c.in-Some.ensures.lookup in
    true≢false
    (sym (c.is_same.ensures.1
    (c.way.ensures ∙ has-is c.args.seats.now c.args.index c.in-Some.seat.now c.args.way.now seat.3.0 seat.1 there)) ∙ fails)

pub returns-in-None-clause-no : goal.returns-in-None-clause-no
returns-in-None-clause-no c = λ fails there.
    let short : length c.args.seats.now ≤ c.args.index = c.in-None.ensures.lookup.3 in
    let less : c.args.index < length c.args.seats.now = has-within c.args.seats.now c.args.index c.args.way.now there in
    absurd (omega arith)
