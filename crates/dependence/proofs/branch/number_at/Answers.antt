use Rattle.std.proofs.Common.{◌≡◌, ◌<◌, ◌≤◌, List, length, Some, sym, ap, subst, ◌∙◌, arith}
use Rattle.address.specs.declared.Entry.{Entry}
use Rattle.dependence.specs.internal.Seats.{number_of, IsSound, IsWay, seat_way}
use Rattle.dependence.proofs.ListLaws.{at-within, every-in, get-at}
use Rattle.dependence.proofs.SearchLaws.{in-at, some-is}
use Rattle.dependence.proofs.SeatLaws.{seat-is-way}
use Rattle.dependence.proofs.branch.number_at.Goals as goal

pub returns-in-Some : goal.returns-in-Some
returns-in-Some c = λ s at.
    let seat = c.in-Some.ensures.lookup in
    let here = get-at c.args.seats.now c.args.index c.in-Some.seat.now seat.3.0 ∙ ap Some (sym seat.1) in
    let is : s ≡ c.in-Some.seat.now = some-is s c.in-Some.seat.now (sym at ∙ here) in
    let sound : IsSound s = every-in IsSound c.args.seats.now s c.requires.sound (in-at c.args.seats.now c.args.index s at) in
    let way : c.way.result.now ≡ seat_way s = c.way.ensures ∙ ap seat_way (sym is) in
    c.end_number.ensures (subst (λ (w : List Entry). IsWay w) (sym way) (seat-is-way s sound)) ∙ ap number_of way

pub returns-in-None : goal.returns-in-None
returns-in-None c = λ s at.
    let short : length c.args.seats.now ≤ c.args.index = c.in-None.ensures.lookup.3 in
    let less : c.args.index < length c.args.seats.now = at-within c.args.seats.now c.args.index s at in
    absurd (omega arith)
