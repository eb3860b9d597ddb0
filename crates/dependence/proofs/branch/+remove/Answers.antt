use Rattle.std.proofs.Common.{◌<◌, List, length, map, refl, sym, subst, ◌∙◌, arith}
use Rattle.address.specs.declared.Entry.{Entry}
use Rattle.dependence.specs.LastEvents.{RemovedAt}
use Rattle.dependence.specs.declared.branch.Seat.{Seat}
use Rattle.dependence.specs.internal.Seats.{Places, seat_way, FitsBehind, IsBranch}
use Rattle.dependence.specs.internal.Walks.{IsGroupBegin}
use Rattle.dependence.proofs.BesideLaws.{begin-kept, ways-kept}
use Rattle.dependence.proofs.SeatLaws.{Stands, stands-at, stands-sound, fits-behind, left-less, event-removed, inner-taken, gone-branch, gone-removed, kept-branch, kept-removed, taken-all, taken-some, absent-as}
use Rattle.dependence.proofs.branch.+remove.Goals as goal

pub Seat::remove-returns-in-Event : goal.Seat::remove-returns-in-Event
Seat::remove-returns-in-Event t c = event-removed c.args.self.now c.in-Event.field-0 c.in-Event.field-1 c.args.rest.now c.in-Event.is c.requires.fits

pub Seat::remove-returns-in-Inner : goal.Seat::remove-returns-in-Inner
Seat::remove-returns-in-Inner t c =
    inner-taken c.args.self.now c.in-Inner.field-0 c.in-Inner.inner _ c.args.rest.now c.is_empty.result c.remove.new.self c.in-Inner.is c.requires.sound refl
    (subst (λ (es : Places). RemovedAt es c.args.rest.now c.remove.new.self) c.deref_mut.ensures.value c.remove.ensures)
    (λ holds. sym c.deref.ensures ∙ c.is_empty.ensures.none holds)
    (λ fails. subst (λ (es : Places). 0 < length es) c.deref.ensures (c.is_empty.ensures.some fails))

pub remove_among-remove-requires : goal.remove_among-remove-requires
remove_among-remove-requires t c =
    let st : Stands c.args.seats.now.items c.find_way-index.result.0 c.index_mut.result.now c.args.place.now =
    stands-at c.args.seats.now.items c.as_slice.result.now c.find_way-index.result.0 c.split_at.result.0.now _ c.args.place.now c.index_mut.result.now
    c.as_slice.ensures.value c.split_at.ensures.front c.way_length.ensures.way (c.find_way-index.ensures.yes c.if-is_there.true) c.index_mut.ensures.value in
    let sound = stands-sound c.args.seats.now.items c.find_way-index.result.0 c.index_mut.result.now c.args.place.now c.requires.branch st in
    let rest = c.split_at.ensures.back ∙ c.way_length.ensures.rest in
    let less = left-less c.index_mut.result.now c.args.place.now c.split_at.result.1.now sound st.way rest in (
      omega (arith, less, c.decreases),
      (sound, subst (λ (r : List Entry). FitsBehind c.index_mut.result.now r) (sym rest) (fits-behind c.index_mut.result.now c.args.place.now sound st.way)),
    )

pub remove_among-remove-requires-then-remove : goal.remove_among-remove-requires-then-remove
remove_among-remove-requires-then-remove t c =
    let st : Stands c.args.seats.now.items c.find_way-index.result.0 c.index_mut.result.now c.args.place.now =
    stands-at c.args.seats.now.items c.as_slice.result.now c.find_way-index.result.0 c.split_at.result.0.now _ c.args.place.now c.index_mut.result.now
    c.as_slice.ensures.value c.split_at.ensures.front c.way_length.ensures.way (c.find_way-index.ensures.yes c.if-is_there.true) c.index_mut.ensures.value in
    omega (arith, st.within, c.args.seats.now.ok)

pub remove_among-count_beside-requires : goal.remove_among-count_beside-requires
remove_among-count_beside-requires t c =
    let st : Stands c.args.seats.now.items c.find_way-index.result.0 c.index_mut.result.now c.args.place.now =
    stands-at c.args.seats.now.items c.as_slice.result.now c.find_way-index.result.0 c.split_at.result.0.now _ c.args.place.now c.index_mut.result.now
    c.as_slice.ensures.value c.split_at.ensures.front c.way_length.ensures.way (c.find_way-index.ensures.yes c.if-is_there.true) c.index_mut.ensures.value in
    let rest = c.split_at.ensures.back ∙ c.way_length.ensures.rest in
    subst IsBranch (sym c.as_slice-then-remove.ensures.value)
    (gone-branch c.args.seats.now.items c.find_way-index.result.0 c.index_mut.result.now c.remove.new.self c.args.place.now c.split_at.result.1.now c.requires.branch st rest
    c.remove-then-remove.new.self.items c.remove-then-remove.ensures.items)

pub remove_among-returns-then-remove-clause-sorted : goal.remove_among-returns-then-remove-clause-sorted
remove_among-returns-then-remove-clause-sorted t c =
    let st : Stands c.args.seats.now.items c.find_way-index.result.0 c.index_mut.result.now c.args.place.now =
    stands-at c.args.seats.now.items c.as_slice.result.now c.find_way-index.result.0 c.split_at.result.0.now _ c.args.place.now c.index_mut.result.now
    c.as_slice.ensures.value c.split_at.ensures.front c.way_length.ensures.way (c.find_way-index.ensures.yes c.if-is_there.true) c.index_mut.ensures.value in
    let rest = c.split_at.ensures.back ∙ c.way_length.ensures.rest in
    record {
      branch = gone-branch c.args.seats.now.items c.find_way-index.result.0 c.index_mut.result.now c.remove.new.self c.args.place.now c.split_at.result.1.now c.requires.branch st rest
          c.remove-then-remove.new.self.items c.remove-then-remove.ensures.items;
      begins = subst (λ (xs : List Seat). IsGroupBegin (map seat_way xs) c.count_beside.result) c.as_slice-then-remove.ensures.value c.count_beside.ensures;
    }

pub remove_among-returns-then-remove-clause-removed : goal.remove_among-returns-then-remove-clause-removed
remove_among-returns-then-remove-clause-removed t c =
    let st : Stands c.args.seats.now.items c.find_way-index.result.0 c.index_mut.result.now c.args.place.now =
    stands-at c.args.seats.now.items c.as_slice.result.now c.find_way-index.result.0 c.split_at.result.0.now _ c.args.place.now c.index_mut.result.now
    c.as_slice.ensures.value c.split_at.ensures.front c.way_length.ensures.way (c.find_way-index.ensures.yes c.if-is_there.true) c.index_mut.ensures.value in
    let rest = c.split_at.ensures.back ∙ c.way_length.ensures.rest in
    gone-removed c.args.seats.now.items c.find_way-index.result.0 c.index_mut.result.now c.remove.new.self c.args.place.now c.split_at.result.1.now c.requires.branch st rest
    c.remove-then-remove.new.self.items c.remove-then-remove.ensures.items (taken-all c.index_mut.result.now c.split_at.result.1.now c.remove.result c.remove.new.self c.remove.ensures c.if-remove.true)

pub remove_among-returns-else-remove-clause-sorted : goal.remove_among-returns-else-remove-clause-sorted
remove_among-returns-else-remove-clause-sorted t c =
    let st : Stands c.args.seats.now.items c.find_way-index.result.0 c.index_mut.result.now c.args.place.now =
    stands-at c.args.seats.now.items c.as_slice.result.now c.find_way-index.result.0 c.split_at.result.0.now _ c.args.place.now c.index_mut.result.now
    c.as_slice.ensures.value c.split_at.ensures.front c.way_length.ensures.way (c.find_way-index.ensures.yes c.if-is_there.true) c.index_mut.ensures.value in
    let rest = c.split_at.ensures.back ∙ c.way_length.ensures.rest in
    let left = taken-some c.index_mut.result.now c.split_at.result.1.now c.remove.result c.remove.new.self c.remove.ensures c.if-remove.false in
    record {
      branch = kept-branch c.args.seats.now.items c.find_way-index.result.0 c.index_mut.result.now c.remove.new.self c.args.place.now c.split_at.result.1.now c.requires.branch st rest
          left.0 left.1;
      begins = begin-kept (map seat_way c.args.seats.now.items) _ c.args.group.now
          (ways-kept c.args.seats.now.items c.find_way-index.result.0 c.index_mut.result.now c.remove.new.self c.args.place.now st left.1) c.requires.begins;
    }

pub remove_among-returns-else-remove-clause-removed : goal.remove_among-returns-else-remove-clause-removed
remove_among-returns-else-remove-clause-removed t c =
    let st : Stands c.args.seats.now.items c.find_way-index.result.0 c.index_mut.result.now c.args.place.now =
    stands-at c.args.seats.now.items c.as_slice.result.now c.find_way-index.result.0 c.split_at.result.0.now _ c.args.place.now c.index_mut.result.now
    c.as_slice.ensures.value c.split_at.ensures.front c.way_length.ensures.way (c.find_way-index.ensures.yes c.if-is_there.true) c.index_mut.ensures.value in
    let rest = c.split_at.ensures.back ∙ c.way_length.ensures.rest in
    let left = taken-some c.index_mut.result.now c.split_at.result.1.now c.remove.result c.remove.new.self c.remove.ensures c.if-remove.false in
    kept-removed c.args.seats.now.items c.find_way-index.result.0 c.index_mut.result.now c.remove.new.self c.args.place.now c.split_at.result.1.now c.requires.branch st rest
    left.2

pub remove_among-returns-else-is_there-clause-removed : goal.remove_among-returns-else-is_there-clause-removed
remove_among-returns-else-is_there-clause-removed t c =
    absent-as c.args.seats.now.items c.as_slice.result.now c.as_slice.result.now c.split_at.result.0.now _ c.args.place.now c.find_way-index.result.0 c.requires.branch
    c.as_slice.ensures.value c.as_slice.ensures.value c.split_at.ensures.front c.way_length.ensures.way c.find_way-index.ensures.splits (c.find_way-index.ensures.no c.if-is_there.false)
