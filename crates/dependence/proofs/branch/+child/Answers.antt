use Rattle.std.proofs.Common.{◌≡◌, List, map, refl, sym, ap, subst, ◌∙◌, rules}
use Rattle.address.specs.declared.Entry.{Entry}
use Rattle.dependence.specs.LastEvents.{ticket_at, first_child}
use Rattle.dependence.specs.declared.branch.Seat.{Seat}
use Rattle.dependence.specs.internal.Search.{Splits}
use Rattle.dependence.specs.internal.Seats.{Places, way_of, AllOrdered, EndsAtBranch, seat_way, HasSeat, IsSound}
use Rattle.dependence.proofs.ChildLaws.{child-absent}
use Rattle.dependence.proofs.CodeLaws.{is-way}
use Rattle.dependence.proofs.LastLaws.{child-inner}
use Rattle.dependence.proofs.SeatLaws.{Stands, stands-at, stands-sound, has-within}
use Rattle.dependence.proofs.WayLaws.{ordered-place, not-both}
use Rattle.dependence.proofs.branch.+child.Goals as goal

pub first_child_among-ends_at_branch-requires : goal.first_child_among-ends_at_branch-requires
first_child_among-ends_at_branch-requires t c = is-way c.split_at.result.0.now _ c.args.place.now c.split_at.ensures.front c.way_length.ensures.way

pub first_child_among-event_behind-requires-clause-ordered : goal.first_child_among-event_behind-requires-clause-ordered
first_child_among-event_behind-requires-clause-ordered t c =
    let ordered = c.ends_at_branch.ensures.event c.if-not-ends_at_branch.true in
    subst AllOrdered (ordered-place c.args.place.now c.split_at.result.0.now _ c.split_at.ensures.front c.way_length.ensures.way ordered) ordered

pub first_child_among-event_behind-requires-clause-index : goal.first_child_among-event_behind-requires-clause-index
first_child_among-event_behind-requires-clause-index t c =
    let ordered = c.ends_at_branch.ensures.event c.if-not-ends_at_branch.true in
    subst (λ (w : List Entry). Splits (map seat_way c.args.seats.now) w c.find_way-index.result.0)
    (ordered-place c.args.place.now c.split_at.result.0.now _ c.split_at.ensures.front c.way_length.ensures.way ordered) c.find_way-index.ensures.splits

pub first_child_among-returns-then-not-is_there : goal.first_child_among-returns-then-not-is_there
first_child_among-returns-then-not-is_there t c =
    let way : c.split_at.result.0.now ≡ way_of c.args.place.now = c.split_at.ensures.front ∙ c.way_length.ensures.way in
    child-absent c.args.seats.now c.args.place.now c.find_way-index.result.0 c.requires (subst EndsAtBranch way (c.ends_at_branch.ensures.branch c.if-not-ends_at_branch.false))
    (subst (λ (w : List Entry). Splits (map seat_way c.args.seats.now) w c.find_way-index.result.0) way c.find_way-index.ensures.splits)
    (λ has. c.find_way-index.ensures.no c.if-not-is_there.true (subst (λ (w : List Entry). HasSeat c.args.seats.now c.find_way-index.result.0 w) (sym way) has))

pub first_child_among-bounds-seats-index : goal.first_child_among-bounds-seats-index
first_child_among-bounds-seats-index t c =
    has-within c.args.seats.now c.find_way-index.result.0 c.split_at.result.0.now (c.find_way-index.ensures.yes c.if-not-is_there.false)

pub first_child_among-returns-in-Event : goal.first_child_among-returns-in-Event
first_child_among-returns-in-Event t c =
    let st : Stands c.args.seats.now c.find_way-index.result.0 c.index-seats-index.result c.args.place.now =
    stands-at c.args.seats.now c.args.seats.now c.find_way-index.result.0 c.split_at.result.0.now _ c.args.place.now c.index-seats-index.result
    refl c.split_at.ensures.front c.way_length.ensures.way (c.find_way-index.ensures.yes c.if-not-is_there.false) c.index-seats-index.is in
    let sound = stands-sound c.args.seats.now c.find_way-index.result.0 c.index-seats-index.result c.args.place.now c.requires st in
    let way : c.split_at.result.0.now ≡ way_of c.args.place.now = c.split_at.ensures.front ∙ c.way_length.ensures.way in
    let own : c.in-Event.field-0 ≡ way_of c.args.place.now = ap seat_way (sym c.in-Event.is) ∙ st.way in
    absurd (not-both (way_of c.args.place.now) (subst AllOrdered own (subst (λ (x : Seat). IsSound x) c.in-Event.is sound))
    (subst EndsAtBranch way (c.ends_at_branch.ensures.branch c.if-not-ends_at_branch.false)))

pub first_child_among-returns-in-Inner : goal.first_child_among-returns-in-Inner
first_child_among-returns-in-Inner t c =
    let st : Stands c.args.seats.now c.find_way-index.result.0 c.index-seats-index.result c.args.place.now =
    stands-at c.args.seats.now c.args.seats.now c.find_way-index.result.0 c.split_at.result.0.now _ c.args.place.now c.index-seats-index.result
    refl c.split_at.ensures.front c.way_length.ensures.way (c.find_way-index.ensures.yes c.if-not-is_there.false) c.index-seats-index.is in
    let sound = stands-sound c.args.seats.now c.find_way-index.result.0 c.index-seats-index.result c.args.place.now c.requires st in
    let ends = (subst (λ (x : Seat). IsSound x) c.in-Inner.is sound).0 in
    c.at_first_child.ensures
    ∙ (ap (λ (es : Places). ticket_at es (first_child c.split_at.result.1.now)) c.deref.ensures
    ∙ sym (child-inner c.args.seats.now c.find_way-index.result.0 c.index-seats-index.result c.args.place.now c.split_at.result.1.now c.requires st
    (c.split_at.ensures.back ∙ c.way_length.ensures.rest) c.in-Inner.field-0 c.in-Inner.inner c.in-Inner.is ends))

pub first_child_among-offset_bounds-seats-index : goal.first_child_among-offset_bounds-seats-index
first_child_among-offset_bounds-seats-index t c =
    let within = has-within c.args.seats.now c.find_way-index.result.0 c.split_at.result.0.now (c.find_way-index.ensures.yes c.if-not-is_there.false) in
    search rules
