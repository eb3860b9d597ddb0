use Rattle.std.proofs.Common.{◌≡◌, ◌+◌, ◌*◌, List, map, get_or, length, take, drop, ◌++◌, refl, sym, ap, subst, ◌∙◌, arith}
use Rattle.std.specs.Box.{with_value}
use Rattle.address.specs.declared.Entry.{Entry}
use Rattle.dependence.specs.LastEvents.{PutAt, Orderly}
use Rattle.dependence.specs.declared.branch.Seat.{Seat}
use Rattle.dependence.specs.internal.Search.{AllLess, Splits}
use Rattle.dependence.specs.internal.Seats.{Places, ordered_of, seat_way, seat_places, flat, IsSound, IsBranch, FitsBehind}
use Rattle.dependence.specs.internal.Walks.{AddedFrom, AllBeside, IsSorted}
use Rattle.dependence.proofs.BesideLaws.{all-beside, begin-inserted, begin-kept, event-last, fewer-lesser, lesser-before, ways-kept}
use Rattle.dependence.proofs.CodeLaws.{is-way, inserted-branch, inserted-put, stands-behind, group-near, found-seat, found-none}
use Rattle.dependence.proofs.LastLaws.{orderly-behind, orderly-seat, from-behind, from-event}
use Rattle.dependence.proofs.ListLaws.{on-ok, err-on, set-behind}
use Rattle.dependence.proofs.SeatLaws.{Stands, stands-sound, fits-behind, seat_left, left-less, whole-place, has-within, event-put, inner-put, kept-branch, kept-put, kept-same}
use Rattle.std.specs.Prelude.{OnOk}
use Rattle.dependence.proofs.branch.+put.Goals as goal

pub Seat::put-put-requires : goal.Seat::put-put-requires
Seat::put-put-requires t c =
    let bound : seat_left c.args.self.now c.args.rest.now ≡ 3 * length c.args.rest.now + 3 = ap (λ (x : Seat). seat_left x c.args.rest.now) c.in-Inner.is in (
      omega (arith, bound, c.decreases),
      (
        c.requires.nearest,
        subst (λ (es : Places). Orderly es c.args.rest.now) (sym c.deref_mut.ensures.value)
            (orderly-behind c.in-Inner.field-0 c.in-Inner.inner.value c.args.rest.now
            (subst (λ (x : Seat). Orderly (seat_places x) (seat_way x ++ c.args.rest.now)) c.in-Inner.is c.requires.orderly)),
      ),
    )

pub Seat::put-returns-in_ok-add_nearest-in-Event-clause-put : goal.Seat::put-returns-in_ok-add_nearest-in-Event-clause-put
Seat::put-returns-in_ok-add_nearest-in-Event-clause-put t c = event-put c.args.self.now c.in-Event.field-0 _ c.args.ticket c.args.rest.now c.in-Event.is c.requires.fits

pub Seat::put-returns-in_ok-add_nearest-in-Event-clause-found : goal.Seat::put-returns-in_ok-add_nearest-in-Event-clause-found
Seat::put-returns-in_ok-add_nearest-in-Event-clause-found t c =
    from-event (flat c.args.nearest.now) c.args.self.now c.in-Event.field-0 _ c.args.rest.now c.args.found.now.items c.add_nearest.new.found.items c.in-Event.is
    c.requires.fits c.in_ok-add_nearest-in-Event.ensures

pub Seat::put-returns-in-Inner-clause-put : goal.Seat::put-returns-in-Inner-clause-put
Seat::put-returns-in-Inner-clause-put t c =
    on-ok c.put.result
    (λ put. inner-put c.args.self.now c.in-Inner.field-0 c.in-Inner.inner (with_value c.in-Inner.inner c.put.new.self) c.args.rest.now c.args.ticket c.put.new.self c.in-Inner.is refl
    (subst (λ (es : Places). PutAt es c.args.rest.now c.args.ticket c.put.new.self) c.deref_mut.ensures.value put))
    c.put.ensures.put

pub Seat::put-returns-in-Inner-clause-found : goal.Seat::put-returns-in-Inner-clause-found
Seat::put-returns-in-Inner-clause-found t c =
    on-ok c.put.result
    (λ added.
    subst (λ (x : Seat). AddedFrom (flat c.args.nearest.now) (seat_places x) (seat_way x ++ c.args.rest.now) c.args.found.now.items c.put.new.found.items) (sym c.in-Inner.is)
    (from-behind (flat c.args.nearest.now) c.in-Inner.field-0 c.in-Inner.inner.value c.args.rest.now c.args.found.now.items c.put.new.found.items
    (subst (λ (x : Seat). IsSound x) c.in-Inner.is c.requires.sound).0
    (subst (λ (es : Places). AddedFrom (flat c.args.nearest.now) es c.args.rest.now c.args.found.now.items c.put.new.found.items) c.deref_mut.ensures.value added)))
    c.put.ensures.found

pub put_among-find_last-lesser-requires : goal.put_among-find_last-lesser-requires
put_among-find_last-lesser-requires t c =
    let same = sym c.as_slice.ensures.value in
    let way = c.way_length-count.ensures.way in
    record {
      sorted = subst (λ (xs : List Seat). IsSorted xs c.args.group.now) same c.requires.sorted;
      way = is-way c.split_at.result.0.now _ c.args.place.now c.split_at.ensures.front way;
      beside = subst (λ (xs : List Seat). AllBeside xs (ordered_of c.split_at.result.0.now)) same
          (all-beside c.args.seats.now.items c.args.place.now c.requires.sorted.branch c.requires.orderly c.split_at.result.0.now _ c.split_at.ensures.front way);
      event = λ ordered.
          subst (λ (xs : List Seat). AllLess (map seat_way xs) (length xs) c.split_at.result.0.now) same
          (event-last c.args.seats.now.items c.args.place.now c.requires.sorted.branch c.requires.orderly c.split_at.result.0.now _ c.split_at.ensures.front way ordered);
    }

pub put_among-nearer-nearer-requires : goal.put_among-nearer-nearer-requires
put_among-nearer-nearer-requires t c =
    lesser-before c.args.seats.now.items c.as_slice.result.now c.split_at_mut-before.result.0.now c.split_at.result.0.now c.find_last-lesser.result.0 c.find_last-lesser.result.1
    c.as_slice.ensures.value (c.split_at_mut-before.ensures.front ∙ ap (λ (ss : List Seat). take c.find_last-lesser.result.1 ss) c.as_mut_slice.ensures.value)
    (is-way c.split_at.result.0.now _ c.args.place.now c.split_at.ensures.front c.way_length-count.ensures.way) c.find_last-lesser.ensures.lesser c.find_last-lesser.ensures.splits

pub put_among-bounds-behind-0 : goal.put_among-bounds-behind-0
put_among-bounds-behind-0 t c =
    let within = has-within c.as_slice.result.now c.find_last-lesser.result.1 c.split_at.result.0.now (c.find_last-lesser.ensures.yes c.if-is_there.true) in
    let one : length c.as_slice.result.now ≡ length c.args.seats.now.items = ap length c.as_slice.ensures.value in
    let two : length c.as_mut_slice.result.now ≡ length c.args.seats.now.items = ap length c.as_mut_slice.ensures.value in
    omega (arith, within, one, two, c.split_at_mut-before.ensures.back_len)

pub put_among-put-requires : goal.put_among-put-requires
put_among-put-requires t c =
    let st : Stands c.args.seats.now.items c.find_last-lesser.result.1 (get_or c.split_at_mut-before.result.1.now 0 c.index-behind-0.result) c.args.place.now =
    stands-behind c.args.seats.now.items c.as_slice.result.now c.split_at_mut-before.result.1.now c.find_last-lesser.result.1 c.split_at.result.0.now _ c.args.place.now
    c.index-behind-0.result c.as_slice.ensures.value c.split_at.ensures.front c.way_length-count.ensures.way (c.find_last-lesser.ensures.yes c.if-is_there.true)
    (c.split_at_mut-before.ensures.back ∙ ap (λ (ss : List Seat). drop c.find_last-lesser.result.1 ss) c.as_mut_slice.ensures.value) in
    let sound = stands-sound c.args.seats.now.items c.find_last-lesser.result.1 (get_or c.split_at_mut-before.result.1.now 0 c.index-behind-0.result) c.args.place.now c.requires.sorted.branch st in
    let rest = c.split_at.ensures.back ∙ c.way_length-count.ensures.rest in
    let less = left-less (get_or c.split_at_mut-before.result.1.now 0 c.index-behind-0.result) c.args.place.now c.split_at.result.1.now sound st.way rest in (
      omega (arith, less, c.decreases),
      (
        sound,
        (
          subst (λ (r : List Entry). FitsBehind (get_or c.split_at_mut-before.result.1.now 0 c.index-behind-0.result) r) (sym rest) (fits-behind (get_or c.split_at_mut-before.result.1.now 0 c.index-behind-0.result) c.args.place.now sound st.way),
          (
            group-near c.args.seats.now.items c.as_slice.result.now c.split_at.result.0.now _ c.args.place.now c.find_last-lesser.result.1 c.split_at_mut-before.result.0.now
                c.args.nearest.now c.nearer-nearer.result.now c.requires.sorted.branch c.as_slice.ensures.value c.split_at.ensures.front c.way_length-count.ensures.way c.find_last-lesser.ensures.splits
                (c.split_at_mut-before.ensures.front ∙ ap (λ (ss : List Seat). take c.find_last-lesser.result.1 ss) c.as_mut_slice.ensures.value) c.nearer-nearer.ensures
                c.requires.nearest c.requires.orderly.inside,
            orderly-seat c.args.seats.now.items c.find_last-lesser.result.1 (get_or c.split_at_mut-before.result.1.now 0 c.index-behind-0.result) c.args.place.now c.requires.sorted.branch st _
                (whole-place (get_or c.split_at_mut-before.result.1.now 0 c.index-behind-0.result) c.args.place.now c.split_at.result.1.now st.way rest) c.requires.orderly,
          ),
        ),
      ),
    )

pub put_among-returns-then-is_there-clause-sorted : goal.put_among-returns-then-is_there-clause-sorted
put_among-returns-then-is_there-clause-sorted t c =
    let st : Stands c.args.seats.now.items c.find_last-lesser.result.1 (get_or c.split_at_mut-before.result.1.now 0 c.index-behind-0.result) c.args.place.now =
    stands-behind c.args.seats.now.items c.as_slice.result.now c.split_at_mut-before.result.1.now c.find_last-lesser.result.1 c.split_at.result.0.now _ c.args.place.now
    c.index-behind-0.result c.as_slice.ensures.value c.split_at.ensures.front c.way_length-count.ensures.way (c.find_last-lesser.ensures.yes c.if-is_there.true)
    (c.split_at_mut-before.ensures.back ∙ ap (λ (ss : List Seat). drop c.find_last-lesser.result.1 ss) c.as_mut_slice.ensures.value) in
    let changed =
    set-behind c.args.seats.now.items c.split_at_mut-before.result.0.now c.split_at_mut-before.result.1.now c.find_last-lesser.result.1 c.args.seats.now.len c.put.new.self
    (c.split_at_mut-before.ensures.front ∙ ap (λ (ss : List Seat). take c.find_last-lesser.result.1 ss) c.as_mut_slice.ensures.value)
    (c.split_at_mut-before.ensures.back ∙ ap (λ (ss : List Seat). drop c.find_last-lesser.result.1 ss) c.as_mut_slice.ensures.value) st.within
    (sym c.as_mut_slice.ensures.len ∙ ap length c.as_mut_slice.ensures.value) in
    let rest = c.split_at.ensures.back ∙ c.way_length-count.ensures.rest in
    record {
      branch = subst IsBranch (sym changed)
          (kept-branch c.args.seats.now.items c.find_last-lesser.result.1 (get_or c.split_at_mut-before.result.1.now 0 c.index-behind-0.result) c.put.new.self c.args.place.now c.split_at.result.1.now c.requires.sorted.branch st rest c.put.ensures.sound c.put.ensures.way);
      begins = begin-kept (map seat_way c.args.seats.now.items) _ c.args.group.now
          (ap (map seat_way) changed
          ∙ ways-kept c.args.seats.now.items c.find_last-lesser.result.1 (get_or c.split_at_mut-before.result.1.now 0 c.index-behind-0.result) c.put.new.self c.args.place.now st c.put.ensures.way)
          c.requires.sorted.begins;
    }

pub put_among-returns-then-is_there-clause-put : goal.put_among-returns-then-is_there-clause-put
put_among-returns-then-is_there-clause-put t c =
    let st : Stands c.args.seats.now.items c.find_last-lesser.result.1 (get_or c.split_at_mut-before.result.1.now 0 c.index-behind-0.result) c.args.place.now =
    stands-behind c.args.seats.now.items c.as_slice.result.now c.split_at_mut-before.result.1.now c.find_last-lesser.result.1 c.split_at.result.0.now _ c.args.place.now
    c.index-behind-0.result c.as_slice.ensures.value c.split_at.ensures.front c.way_length-count.ensures.way (c.find_last-lesser.ensures.yes c.if-is_there.true)
    (c.split_at_mut-before.ensures.back ∙ ap (λ (ss : List Seat). drop c.find_last-lesser.result.1 ss) c.as_mut_slice.ensures.value) in
    let changed =
    set-behind c.args.seats.now.items c.split_at_mut-before.result.0.now c.split_at_mut-before.result.1.now c.find_last-lesser.result.1 c.args.seats.now.len c.put.new.self
    (c.split_at_mut-before.ensures.front ∙ ap (λ (ss : List Seat). take c.find_last-lesser.result.1 ss) c.as_mut_slice.ensures.value)
    (c.split_at_mut-before.ensures.back ∙ ap (λ (ss : List Seat). drop c.find_last-lesser.result.1 ss) c.as_mut_slice.ensures.value) st.within
    (sym c.as_mut_slice.ensures.len ∙ ap length c.as_mut_slice.ensures.value) in
    let rest = c.split_at.ensures.back ∙ c.way_length-count.ensures.rest in
    on-ok c.put.result
    (λ put. subst (λ (ss : List Seat). PutAt (flat c.args.seats.now.items) c.args.place.now c.args.ticket (flat ss)) (sym changed)
    (kept-put c.args.seats.now.items c.find_last-lesser.result.1 (get_or c.split_at_mut-before.result.1.now 0 c.index-behind-0.result) c.put.new.self c.args.place.now c.split_at.result.1.now c.requires.sorted.branch st rest c.args.ticket put))
    c.put.ensures.put

pub put_among-returns-then-is_there-clause-refused : goal.put_among-returns-then-is_there-clause-refused
put_among-returns-then-is_there-clause-refused t c =
    let st : Stands c.args.seats.now.items c.find_last-lesser.result.1 (get_or c.split_at_mut-before.result.1.now 0 c.index-behind-0.result) c.args.place.now =
    stands-behind c.args.seats.now.items c.as_slice.result.now c.split_at_mut-before.result.1.now c.find_last-lesser.result.1 c.split_at.result.0.now _ c.args.place.now
    c.index-behind-0.result c.as_slice.ensures.value c.split_at.ensures.front c.way_length-count.ensures.way (c.find_last-lesser.ensures.yes c.if-is_there.true)
    (c.split_at_mut-before.ensures.back ∙ ap (λ (ss : List Seat). drop c.find_last-lesser.result.1 ss) c.as_mut_slice.ensures.value) in
    let changed =
    set-behind c.args.seats.now.items c.split_at_mut-before.result.0.now c.split_at_mut-before.result.1.now c.find_last-lesser.result.1 c.args.seats.now.len c.put.new.self
    (c.split_at_mut-before.ensures.front ∙ ap (λ (ss : List Seat). take c.find_last-lesser.result.1 ss) c.as_mut_slice.ensures.value)
    (c.split_at_mut-before.ensures.back ∙ ap (λ (ss : List Seat). drop c.find_last-lesser.result.1 ss) c.as_mut_slice.ensures.value) st.within
    (sym c.as_mut_slice.ensures.len ∙ ap length c.as_mut_slice.ensures.value) in
    let rest = c.split_at.ensures.back ∙ c.way_length-count.ensures.rest in
    err-on c.put.result
    (λ same. ap flat changed
    ∙ kept-same c.args.seats.now.items c.find_last-lesser.result.1 (get_or c.split_at_mut-before.result.1.now 0 c.index-behind-0.result) c.put.new.self c.args.place.now c.split_at.result.1.now c.requires.sorted.branch st rest same)
    c.put.ensures.refused

pub put_among-returns-then-is_there-clause-found : goal.put_among-returns-then-is_there-clause-found
put_among-returns-then-is_there-clause-found t c =
    let st : Stands c.args.seats.now.items c.find_last-lesser.result.1 (get_or c.split_at_mut-before.result.1.now 0 c.index-behind-0.result) c.args.place.now =
    stands-behind c.args.seats.now.items c.as_slice.result.now c.split_at_mut-before.result.1.now c.find_last-lesser.result.1 c.split_at.result.0.now _ c.args.place.now
    c.index-behind-0.result c.as_slice.ensures.value c.split_at.ensures.front c.way_length-count.ensures.way (c.find_last-lesser.ensures.yes c.if-is_there.true)
    (c.split_at_mut-before.ensures.back ∙ ap (λ (ss : List Seat). drop c.find_last-lesser.result.1 ss) c.as_mut_slice.ensures.value) in
    on-ok c.put.result
    (found-seat c.args.seats.now.items c.as_slice.result.now c.split_at.result.0.now _ c.args.place.now c.find_last-lesser.result.1 c.split_at_mut-before.result.0.now
    c.args.nearest.now c.nearer-nearer.result.now c.requires.sorted.branch c.as_slice.ensures.value c.split_at.ensures.front c.way_length-count.ensures.way c.find_last-lesser.ensures.splits
    (c.split_at_mut-before.ensures.front ∙ ap (λ (ss : List Seat). take c.find_last-lesser.result.1 ss) c.as_mut_slice.ensures.value) c.nearer-nearer.ensures
    (get_or c.split_at_mut-before.result.1.now 0 c.index-behind-0.result) _ c.args.found.now.items c.put.new.found.items c.requires.orderly st
    (stands-sound c.args.seats.now.items c.find_last-lesser.result.1 (get_or c.split_at_mut-before.result.1.now 0 c.index-behind-0.result) c.args.place.now c.requires.sorted.branch st)
    (whole-place (get_or c.split_at_mut-before.result.1.now 0 c.index-behind-0.result) c.args.place.now c.split_at.result.1.now st.way (c.split_at.ensures.back ∙ c.way_length-count.ensures.rest)))
    c.put.ensures.found

pub put_among-nearer-requires : goal.put_among-nearer-requires
put_among-nearer-requires t c =
    lesser-before c.args.seats.now.items c.as_slice.result.now c.split_at-2.result.0.now c.split_at.result.0.now c.find_last-lesser.result.0 c.find_last-lesser.result.1
    c.as_slice.ensures.value (c.split_at-2.ensures.front ∙ ap (λ (ss : List Seat). take c.find_last-lesser.result.1 ss) c.as_slice-2.ensures.value)
    (is-way c.split_at.result.0.now _ c.args.place.now c.split_at.ensures.front c.way_length-count.ensures.way) c.find_last-lesser.ensures.lesser c.find_last-lesser.ensures.splits

pub put_among-add_nearest-requires-clause-branch : goal.put_among-add_nearest-requires-clause-branch
put_among-add_nearest-requires-clause-branch t c =
    (group-near c.args.seats.now.items c.as_slice.result.now c.split_at.result.0.now _ c.args.place.now c.find_last-lesser.result.1 c.split_at-2.result.0.now
    c.args.nearest.now c.nearer.result.now c.requires.sorted.branch c.as_slice.ensures.value c.split_at.ensures.front c.way_length-count.ensures.way c.find_last-lesser.ensures.splits
    (c.split_at-2.ensures.front ∙ ap (λ (ss : List Seat). take c.find_last-lesser.result.1 ss) c.as_slice-2.ensures.value) c.nearer.ensures
    c.requires.nearest c.requires.orderly.inside).branch

pub put_among-add_nearest-requires-clause-related : goal.put_among-add_nearest-requires-clause-related
put_among-add_nearest-requires-clause-related t c =
    (group-near c.args.seats.now.items c.as_slice.result.now c.split_at.result.0.now _ c.args.place.now c.find_last-lesser.result.1 c.split_at-2.result.0.now
    c.args.nearest.now c.nearer.result.now c.requires.sorted.branch c.as_slice.ensures.value c.split_at.ensures.front c.way_length-count.ensures.way c.find_last-lesser.ensures.splits
    (c.split_at-2.ensures.front ∙ ap (λ (ss : List Seat). take c.find_last-lesser.result.1 ss) c.as_slice-2.ensures.value) c.nearer.ensures
    c.requires.nearest c.requires.orderly.inside).related

pub put_among-returns-clause-sorted : goal.put_among-returns-clause-sorted
put_among-returns-clause-sorted t c =
    let way = c.way_length-count.ensures.way in
    let lesser : Splits (map seat_way c.args.seats.now.items) (ordered_of c.split_at.result.0.now) c.find_last-lesser.result.0 =
    subst (λ (xs : List Seat). Splits (map seat_way xs) (ordered_of c.split_at.result.0.now) c.find_last-lesser.result.0) c.as_slice.ensures.value c.find_last-lesser.ensures.lesser in
    let split : Splits (map seat_way c.args.seats.now.items) c.split_at.result.0.now c.find_last-lesser.result.1 =
    subst (λ (xs : List Seat). Splits (map seat_way xs) c.split_at.result.0.now c.find_last-lesser.result.1) c.as_slice.ensures.value c.find_last-lesser.ensures.splits in
    record {
      branch = inserted-branch c.args.seats.now.items c.as_slice.result.now c.as_slice.result.now c.insert_at.new.items.items c.split_at.result.0.now _ c.args.place.now c.find_last-lesser.result.1 _
          c.args.ticket c.requires.sorted.branch c.as_slice.ensures.value c.as_slice.ensures.value c.split_at.ensures.front c.way_length-count.ensures.way c.find_last-lesser.ensures.splits
          (c.find_last-lesser.ensures.no c.if-is_there.false) c.in_ok-seat.ensures c.in_ok-insert_at.ensures.put;
      begins = begin-inserted c.args.seats.now.items c.split_at.result.0.now c.find_last-lesser.result.0 c.find_last-lesser.result.1
          (all-beside c.args.seats.now.items c.args.place.now c.requires.sorted.branch c.requires.orderly c.split_at.result.0.now _ c.split_at.ensures.front way) lesser
          (fewer-lesser (map seat_way c.args.seats.now.items) c.split_at.result.0.now c.find_last-lesser.result.0 c.find_last-lesser.result.1
          (is-way c.split_at.result.0.now _ c.args.place.now c.split_at.ensures.front way) lesser split)
          split.within c.insert_at.new.items.items _ c.in_ok-insert_at.ensures.put (c.in_ok-seat.ensures.way ∙ sym (c.split_at.ensures.front ∙ way));
    }

pub put_among-returns-clause-put : goal.put_among-returns-clause-put
put_among-returns-clause-put t c =
    inserted-put c.args.seats.now.items c.as_slice.result.now c.as_slice.result.now c.insert_at.new.items.items c.split_at.result.0.now _ c.args.place.now c.find_last-lesser.result.1 _
    c.args.ticket c.requires.sorted.branch c.as_slice.ensures.value c.as_slice.ensures.value c.split_at.ensures.front c.way_length-count.ensures.way c.find_last-lesser.ensures.splits
    (c.find_last-lesser.ensures.no c.if-is_there.false) c.in_ok-seat.ensures c.in_ok-insert_at.ensures.put

pub put_among-returns-clause-found : goal.put_among-returns-clause-found
put_among-returns-clause-found t c =
    found-none c.args.seats.now.items c.as_slice.result.now c.split_at.result.0.now _ c.args.place.now c.find_last-lesser.result.1 c.split_at-2.result.0.now
    c.args.nearest.now c.nearer.result.now c.requires.sorted.branch c.as_slice.ensures.value c.split_at.ensures.front c.way_length-count.ensures.way c.find_last-lesser.ensures.splits
    (c.split_at-2.ensures.front ∙ ap (λ (ss : List Seat). take c.find_last-lesser.result.1 ss) c.as_slice-2.ensures.value) c.nearer.ensures
    c.as_slice.result.now c.args.found.now.items c.add_nearest.new.found.items c.as_slice.ensures.value (c.find_last-lesser.ensures.no c.if-is_there.false)
    c.requires.orderly c.in_ok-add_nearest.ensures

pub BranchEvents::put-returns-clause-found : goal.BranchEvents::put-returns-clause-found
BranchEvents::put-returns-clause-found t c =
    subst (λ (es : Places). OnOk c.put_among.result (AddedFrom (flat c.args.nearest.now) es c.args.place.now c.args.found.now.items c.put_among.new.found.items)) c.self.view_is
    c.put_among.ensures.found
