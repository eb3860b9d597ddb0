use Rattle.std.proofs.Common.{◌<◌, ◌≤◌, ◌-◌, List, length, map, Some, sym, ap, subst, ◌∙◌, arith}
use Rattle.address.specs.declared.Entry.{Entry}
use Rattle.dependence.specs.internal.Search.{Splits}
use Rattle.dependence.specs.internal.Seats.{seat_way, ordered_of, IsWay, IsSound}
use Rattle.dependence.proofs.BesideLaws.{begin-at, begin-event, begin-none}
use Rattle.dependence.proofs.ListLaws.{every-in, get-at}
use Rattle.dependence.proofs.SearchLaws.{in-at}
use Rattle.dependence.proofs.SeatLaws.{seat-is-way}
use Rattle.dependence.proofs.branch.count_beside.Goals as goal

pub returns-in_default : goal.returns-in_default
returns-in_default c = begin-none c.args.seats.now (let short : length c.args.seats.now ≤ 0 = c.in_default.ensures.item.3 in omega arith)

pub returns-in-Event : goal.returns-in-Event
returns-in-Event c =
    let item = c.in-Some.ensures.item in
    let some : 0 < length c.args.seats.now = item.3.0 in
    let at = get-at c.args.seats.now (length c.args.seats.now - 1) c.in-Some.last.now (omega arith) ∙ ap Some (sym item.1) in
    begin-event c.args.seats.now c.in-Some.last.now _ _ c.requires at c.in-Event.is

pub ordered-requires : goal.ordered-requires
ordered-requires c =
    let item = c.in-Some.ensures.item in
    let some : 0 < length c.args.seats.now = item.3.0 in
    let at = get-at c.args.seats.now (length c.args.seats.now - 1) c.in-Some.last.now (omega arith) ∙ ap Some (sym item.1) in
    let there = in-at c.args.seats.now (length c.args.seats.now - 1) c.in-Some.last.now at in
    subst (λ (w : List Entry). IsWay w) (ap seat_way c.in-Inner.is ∙ sym c.entries-own.ensures)
    (seat-is-way c.in-Some.last.now (every-in IsSound c.args.seats.now c.in-Some.last.now c.requires.sound there))

pub returns-in-Inner : goal.returns-in-Inner
returns-in-Inner c =
    let item = c.in-Some.ensures.item in
    let some : 0 < length c.args.seats.now = item.3.0 in
    let at = get-at c.args.seats.now (length c.args.seats.now - 1) c.in-Some.last.now (omega arith) ∙ ap Some (sym item.1) in
    begin-at c.args.seats.now c.in-Some.last.now c.count_less_near.result at
    (subst (λ (w : List Entry). Splits (map seat_way c.args.seats.now) w c.count_less_near.result)
    (c.ordered.ensures ∙ ap ordered_of (c.entries-own.ensures ∙ ap seat_way (sym c.in-Inner.is))) c.count_less_near.ensures)
