use Rattle.std.proofs.Common.{◌≡◌, ◌<◌, ◌+◌, ◌-◌, List, length, drop, Some, sym, ap, subst, ◌∙◌, arith}
use Rattle.dependence.specs.declared.branch.Seat.{Seat}
use Rattle.dependence.specs.internal.Seats.{Places, seat_way, seat_places, flat, IsSound, IsBranch}
use Rattle.dependence.specs.internal.Sizes.{entries_of}
use Rattle.dependence.specs.internal.Walks.{Related, AddedLast}
use Rattle.dependence.proofs.BesideLaws.{group-of, group-within}
use Rattle.dependence.proofs.CodeLaws.{item-in, each-more, entries-dropped, entries-item, entries-fall}
use Rattle.dependence.proofs.LastLaws.{alone-last, event-last, inner-last, related-behind, related-seat, related-dropped, branch-dropped, group-last}
use Rattle.dependence.proofs.ListLaws.{at-map, every-in, get-at, if-ok, ok-if}
use Rattle.dependence.proofs.public.ListPlaces.{take-all}
use Rattle.dependence.proofs.branch.+last.Goals as goal

pub Seat::add_last-add_last-requires : goal.Seat::add_last-add_last-requires
Seat::add_last-add_last-requires t c =
    let fall = entries-fall c.args.self.now c.in-Inner.field-0 c.in-Inner.inner c.in-Inner.is c.requires.sound in
    let same : entries_of c.deref.result.now ≡ entries_of c.in-Inner.inner.value = ap entries_of c.deref.ensures in (
      omega (arith, fall, same, c.decreases),
      subst (λ (es : Places). Related es) (sym c.deref.ensures)
          (related-behind c.in-Inner.field-0 c.in-Inner.inner.value (subst (λ (x : Seat). Related (seat_places x)) c.in-Inner.is c.requires.related)),
    )

pub Seat::add_last-returns-in-Event : goal.Seat::add_last-returns-in-Event
Seat::add_last-returns-in-Event t c =
    ok-if c.push_last.result
    (λ put. subst (λ (x : Seat). AddedLast (seat_places x) c.args.found.now.items c.push_last.new.items.items) (sym c.in-Event.is)
    (event-last c.in-Event.field-0 c.in-Event.ticket c.args.found.now.items c.push_last.new.items.items put))
    c.push_last.ensures.put

pub Seat::add_last-returns-in-Inner : goal.Seat::add_last-returns-in-Inner
Seat::add_last-returns-in-Inner t c =
    if-ok _ _ c.add_last.result
    (λ x added.
    subst (λ (x : Seat). AddedLast (seat_places x) c.args.found.now.items c.add_last.new.found.items) (sym c.in-Inner.is)
    (inner-last c.in-Inner.field-0 c.in-Inner.inner.value c.args.found.now.items c.add_last.new.found.items (subst (λ (x : Seat). IsSound x) c.in-Inner.is c.requires.sound).0
    (subst (λ (es : Places). AddedLast es c.args.found.now.items c.add_last.new.found.items) c.deref.ensures added)))
    c.add_last.ensures

pub add_each-add_last-requires : goal.add_each-add_last-requires
add_each-add_last-requires t c =
    let item = item-in c.args.seats.now c.loop-seat.seat-index c.seat-item.result c.loop-seat-test.true c.seat-item.is in
    let less = entries-item c.args.seats.now c.seat-item.result item in (
      omega (arith, less, c.decreases),
      (every-in IsSound c.args.seats.now c.seat-item.result c.requires.branch.sound item, related-seat c.args.seats.now c.seat-item.result c.requires.branch item c.requires.related),
    )

pub add_each-loop-seat-preserved : goal.add_each-loop-seat-preserved
add_each-loop-seat-preserved t c = record {
  added = each-more c.args.seats.now c.loop-seat.seat-index (c.loop-seat.seat-index + 1) c.seat-item.result c.args.found.now.items c.loop-seat.found.items c.add_last.new.found.items
      c.requires.branch c.loop-seat-test.true c.seat-item.is (omega arith) c.loop-seat.invariant.added c.in_ok-add_last.ensures;
}

pub add_last_among-add_last-requires : goal.add_last_among-add_last-requires
add_last_among-add_last-requires t c =
    let item = c.in-Some.ensures.item in
    let some : 0 < length c.args.seats.now = item.3.0 in
    let there = item-in c.args.seats.now (length c.args.seats.now - 1) c.in-Some.last.now (omega arith) item.1 in
    let less = entries-item c.args.seats.now c.in-Some.last.now there in (
      omega (arith, less, c.decreases),
      (
        every-in IsSound c.args.seats.now c.in-Some.last.now c.requires.sorted.branch.sound there,
        related-seat c.args.seats.now c.in-Some.last.now c.requires.sorted.branch there c.requires.related,
      ),
    )

pub add_last_among-returns-then-group-others : goal.add_last_among-returns-then-group-others
add_last_among-returns-then-group-others t c =
    let item = c.in-Some.ensures.item in
    let some : 0 < length c.args.seats.now = item.3.0 in
    let there = item-in c.args.seats.now (length c.args.seats.now - 1) c.in-Some.last.now (omega arith) item.1 in
    let at = get-at c.args.seats.now (length c.args.seats.now - 1) c.in-Some.last.now (omega arith) ∙ ap Some (sym item.1) in
    let split = group-of c.args.seats.now c.args.group (seat_way c.in-Some.last.now) c.requires.sorted.begins (at-map seat_way c.args.seats.now (length c.args.seats.now - 1) c.in-Some.last.now at) in
    if-ok _ _ c.add_last.result
    (λ x added.
    group-last c.args.seats.now c.in-Some.last.now c.args.group c.requires.sorted.branch c.requires.related there split c.args.found.now.items
    c.add_last.new.found.items
    (alone-last c.args.seats.now c.args.group (length c.args.seats.now - 1) c.in-Some.last.now c.args.found.now.items c.add_last.new.found.items at
    (omega (arith, c.if-group-others.true)) (omega (arith, some, c.if-group-others.true)) added))
    c.add_last.ensures

pub add_last_among-split_at-requires : goal.add_last_among-split_at-requires
add_last_among-split_at-requires t c =
    let item = c.in-Some.ensures.item in
    let some : 0 < length c.args.seats.now = item.3.0 in
    let at = get-at c.args.seats.now (length c.args.seats.now - 1) c.in-Some.last.now (omega arith) ∙ ap Some (sym item.1) in
    let own = at-map seat_way c.args.seats.now (length c.args.seats.now - 1) c.in-Some.last.now at in
    let split = group-of c.args.seats.now c.args.group (seat_way c.in-Some.last.now) c.requires.sorted.begins own in
    let less = group-within c.args.seats.now c.args.group (seat_way c.in-Some.last.now) split own in
    omega (arith, less)

pub add_last_among-add_each-requires : goal.add_last_among-add_each-requires
add_last_among-add_each-requires t c =
    let less = entries-dropped c.args.seats.now c.args.group in
    let same : entries_of (flat c.split_at.result.1.now) ≡ entries_of (flat (drop c.args.group c.args.seats.now)) =
    ap (λ (xs : List Seat). entries_of (flat xs)) c.split_at.ensures.back in (
      omega (arith, less, same, c.decreases),
      (
        subst IsBranch (sym c.split_at.ensures.back) (branch-dropped c.args.seats.now c.args.group c.requires.sorted.branch),
        subst (λ (xs : List Seat). Related (flat xs)) (sym c.split_at.ensures.back)
            (related-dropped c.args.seats.now c.args.group c.requires.sorted.branch c.requires.related),
      ),
    )

pub add_last_among-returns : goal.add_last_among-returns
add_last_among-returns t c =
    let item = c.in-Some.ensures.item in
    let some : 0 < length c.args.seats.now = item.3.0 in
    let there = item-in c.args.seats.now (length c.args.seats.now - 1) c.in-Some.last.now (omega arith) item.1 in
    let at = get-at c.args.seats.now (length c.args.seats.now - 1) c.in-Some.last.now (omega arith) ∙ ap Some (sym item.1) in
    let split = group-of c.args.seats.now c.args.group (seat_way c.in-Some.last.now) c.requires.sorted.begins (at-map seat_way c.args.seats.now (length c.args.seats.now - 1) c.in-Some.last.now at) in
    if-ok _ _ c.add_each.result
    (λ x added.
    group-last c.args.seats.now c.in-Some.last.now c.args.group c.requires.sorted.branch c.requires.related there split c.args.found.now.items c.add_each.new.found.items
    (subst (λ (xs : List Seat). AddedLast (flat xs) c.args.found.now.items c.add_each.new.found.items) c.split_at.ensures.back added))
    c.add_each.ensures

pub add_each-returns : goal.add_each-returns
add_each-returns t c =
    subst (λ (ss : List Seat). AddedLast (flat ss) c.args.found.now.items c.loop-seat.found.items) (take-all c.args.seats.now c.loop-seat.seat-index c.loop-seat-test.false)
    c.loop-seat.invariant.added
