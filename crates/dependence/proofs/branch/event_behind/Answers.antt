use Rattle.std.proofs.Common.{◌<◌, ◌≤◌, length, sym, ap, ◌∙◌, true≢false, arith}
use Rattle.dependence.specs.LastEvents.{first_child}
use Rattle.dependence.specs.internal.Seats.{seat_way}
use Rattle.dependence.proofs.ChildLaws.{child-none, child-some, inner-not-child}
use Rattle.dependence.proofs.SeatLaws.{has-is, has-within}
use Rattle.dependence.proofs.branch.event_behind.Goals as goal

pub returns-in_default : goal.returns-in_default
returns-in_default c =
    child-none c.args.seats.now c.args.place.now c.index_of_child-next.result c.requires.branch c.requires.ordered c.index_of_child-next.ensures
    (λ has.
    let short : length c.args.seats.now ≤ c.index_of_child-next.result = c.in_default.ensures.lookup.3 in
    let less : c.index_of_child-next.result < length c.args.seats.now = has-within c.args.seats.now c.index_of_child-next.result (first_child c.args.place.now) has in
    absurd (omega arith))

pub returns-in-Inner : goal.returns-in-Inner
returns-in-Inner c =
    let seat = c.in-Some.ensures.lookup in
    child-none c.args.seats.now c.args.place.now c.index_of_child-next.result c.requires.branch c.requires.ordered c.index_of_child-next.ensures
    (inner-not-child c.args.seats.now c.args.place.now c.index_of_child-next.result c.requires.branch c.requires.ordered c.in-Some.seat.now c.in-Inner.field-0 c.in-Inner.field-1
    seat.3.0 seat.1 c.in-Inner.is)

pub returns-then-is_first_child : goal.returns-then-is_first_child
returns-then-is_first_child c =
    let seat = c.in-Some.ensures.lookup in
    child-some c.args.seats.now c.args.place.now c.index_of_child-next.result c.requires.branch c.requires.ordered c.in-Some.seat.now c.in-Event.way c.in-Event.ticket
    seat.3.0 seat.1 c.in-Event.is (sym c.entries.ensures ∙ c.is_first_child.ensures.0 c.if-is_first_child.true)

pub returns-else-is_first_child : goal.returns-else-is_first_child
returns-else-is_first_child c =
    let seat = c.in-Some.ensures.lookup in
    child-none c.args.seats.now c.args.place.now c.index_of_child-next.result c.requires.branch c.requires.ordered c.index_of_child-next.ensures
    (λ has.
    true≢false
    (sym (c.is_first_child.ensures.1
    (c.entries.ensures
    ∙ (ap seat_way (sym c.in-Event.is) ∙ has-is c.args.seats.now c.index_of_child-next.result c.in-Some.seat.now (first_child c.args.place.now) seat.3.0 seat.1 has)))
    ∙ c.if-is_first_child.false))
