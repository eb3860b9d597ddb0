use Rattle.std.proofs.Common.{◌<◌, ◌≤◌, ◌-◌, length, Some, sym, ap, subst, ◌∙◌, arith}
use Rattle.dependence.specs.declared.branch.Seat.{Seat}
use Rattle.dependence.specs.internal.Seats.{EndsAtBranch, IsSound, seat_way}
use Rattle.dependence.proofs.BesideLaws.{all-lesser, all-lesser-way, no-seats, none-past}
use Rattle.dependence.proofs.ListLaws.{at-map, every-in, get-at}
use Rattle.dependence.proofs.SearchLaws.{in-at}
use Rattle.dependence.proofs.WayLaws.{not-both}
use Rattle.dependence.proofs.branch.find_last.Goals as goal

pub returns-in_default-clause-lesser : goal.returns-in_default-clause-lesser
returns-in_default-clause-lesser c = no-seats c.args.seats.now _ (let short : length c.args.seats.now ≤ 0 = c.in_default.ensures.item.3 in omega arith)

pub returns-in_default-clause-splits : goal.returns-in_default-clause-splits
returns-in_default-clause-splits c = no-seats c.args.seats.now _ (let short : length c.args.seats.now ≤ 0 = c.in_default.ensures.item.3 in omega arith)

pub returns-in_default-clause-no : goal.returns-in_default-clause-no
returns-in_default-clause-no c = λ fails there. none-past c.args.seats.now c.args.way.now there

pub returns-in-Event-clause-lesser : goal.returns-in-Event-clause-lesser
returns-in-Event-clause-lesser c =
    let item = c.in-Some.ensures.item in
    let some : 0 < length c.args.seats.now = item.3.0 in
    let at = get-at c.args.seats.now (length c.args.seats.now - 1) c.in-Some.last.now (omega arith) ∙ ap Some (sym item.1) in
    let there = in-at c.args.seats.now (length c.args.seats.now - 1) c.in-Some.last.now at in
    let sound : IsSound c.in-Some.last.now = every-in IsSound c.args.seats.now c.in-Some.last.now c.requires.sorted.branch.sound there in
    all-lesser c.args.seats.now c.in-Some.last.now c.args.way.now c.requires.sorted.branch c.requires.way c.requires.beside at
    (λ same ends. not-both c.in-Event.field-0 (subst IsSound c.in-Event.is sound) (subst (λ (x : Seat). EndsAtBranch (seat_way x)) c.in-Event.is ends))

pub returns-in-Event-clause-splits : goal.returns-in-Event-clause-splits
returns-in-Event-clause-splits c =
    let item = c.in-Some.ensures.item in
    let some : 0 < length c.args.seats.now = item.3.0 in
    let at = get-at c.args.seats.now (length c.args.seats.now - 1) c.in-Some.last.now (omega arith) ∙ ap Some (sym item.1) in
    let there = in-at c.args.seats.now (length c.args.seats.now - 1) c.in-Some.last.now at in
    let sound : IsSound c.in-Some.last.now = every-in IsSound c.args.seats.now c.in-Some.last.now c.requires.sorted.branch.sound there in
    all-lesser-way c.args.seats.now c.in-Some.last.now c.args.way.now c.requires.sorted.branch c.requires.way c.requires.beside at
    (λ same ends. not-both c.in-Event.field-0 (subst IsSound c.in-Event.is sound) (subst (λ (x : Seat). EndsAtBranch (seat_way x)) c.in-Event.is ends))

pub returns-in-Event-clause-no : goal.returns-in-Event-clause-no
returns-in-Event-clause-no c = λ fails there. none-past c.args.seats.now c.args.way.now there

pub find_beside-requires-clause-last : goal.find_beside-requires-clause-last
find_beside-requires-clause-last c =
    let item = c.in-Some.ensures.item in
    let some : 0 < length c.args.seats.now = item.3.0 in
    let at = get-at c.args.seats.now (length c.args.seats.now - 1) c.in-Some.last.now (omega arith) ∙ ap Some (sym item.1) in
    at-map seat_way c.args.seats.now (length c.args.seats.now - 1) c.in-Some.last.now at ∙ ap Some (ap seat_way c.in-Inner.is ∙ sym c.entries.ensures)

pub find_beside-requires-clause-ends : goal.find_beside-requires-clause-ends
find_beside-requires-clause-ends c =
    let item = c.in-Some.ensures.item in
    let some : 0 < length c.args.seats.now = item.3.0 in
    let at = get-at c.args.seats.now (length c.args.seats.now - 1) c.in-Some.last.now (omega arith) ∙ ap Some (sym item.1) in
    let there = in-at c.args.seats.now (length c.args.seats.now - 1) c.in-Some.last.now at in
    let sound : IsSound c.in-Some.last.now = every-in IsSound c.args.seats.now c.in-Some.last.now c.requires.sorted.branch.sound there in
    subst EndsAtBranch (sym c.entries.ensures) (subst IsSound c.in-Inner.is sound).0
