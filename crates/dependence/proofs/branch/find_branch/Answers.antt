use Rattle.std.proofs.Common.{◌≡◌, ◌<◌, ◌≤◌, ◌-◌, length, map, sym, arith}
use Rattle.dependence.specs.internal.Seats.{number_of, seat_way}
use Rattle.dependence.proofs.BesideLaws.{all-under, at-some, lesser-branch, same-branch}
use Rattle.dependence.proofs.SearchLaws.{length-places, split-all, split-at}
use Rattle.dependence.proofs.SeatLaws.{has-within}
use Rattle.dependence.proofs.branch.find_branch.Goals as goal

pub returns-then-last-number-clause-splits : goal.returns-then-last-number-clause-splits
returns-then-last-number-clause-splits c =
    let some : c.args.lesser < length c.args.seats.now = c.requires.some in
    let inside : length c.args.seats.now - 1 < length c.args.seats.now = omega (arith, some) in
    let s = at-some c.args.seats.now (length c.args.seats.now - 1) inside in
    let last : c.number_at-last.result ≡ number_of (seat_way s.0) = c.number_at-last.ensures s.0 s.1 in
    let own : c.end_number-number.result ≡ number_of c.args.way.now = c.end_number-number.ensures c.requires.way in
    let less : number_of (seat_way s.0) < number_of c.args.way.now = omega (arith, last, own, c.if-last-number.true) in
    let from : c.args.lesser ≤ length c.args.seats.now - 1 = omega (arith, some) in
    split-all (map seat_way c.args.seats.now) c.args.way.now (length c.args.seats.now) (sym (length-places seat_way c.args.seats.now))
    (all-under c.args.seats.now c.args.way.now (length c.args.seats.now) (length c.args.seats.now - 1) s.0 c.requires.branch s.1 (omega (arith, some))
    (lesser-branch c.args.seats.now c.args.way.now c.args.lesser (length c.args.seats.now - 1) s.0 c.requires.beside c.requires.lesser from s.1 c.requires.ends less))

pub returns-then-last-number-clause-no : goal.returns-then-last-number-clause-no
returns-then-last-number-clause-no c = λ fails there.
    let less : length c.args.seats.now < length c.args.seats.now = has-within c.args.seats.now (length c.args.seats.now) c.args.way.now there in
    absurd (omega arith)

pub returns-then-number_at-number-clause-yes : goal.returns-then-number_at-number-clause-yes
returns-then-number_at-number-clause-yes c = λ holds.
    let some : c.args.lesser < length c.args.seats.now = c.requires.some in
    let inside : c.saturating_sub-likely.result < length c.args.seats.now = omega (arith, some, c.saturating_sub-likely.ensures) in
    let s = at-some c.args.seats.now c.saturating_sub-likely.result inside in
    let own : c.end_number-number.result ≡ number_of c.args.way.now = c.end_number-number.ensures c.requires.way in
    let here : c.number_at.result ≡ number_of (seat_way s.0) = c.number_at.ensures s.0 s.1 in
    let same : number_of (seat_way s.0) ≡ number_of c.args.way.now = omega (arith, here, own, c.if-number_at-number.true) in
    same-branch c.args.seats.now c.args.way.now c.args.lesser c.saturating_sub-likely.result s.0 c.requires.beside c.requires.lesser
    (omega (arith, c.if-likely-lesser.true)) s.1 c.requires.ends same

pub returns-then-number_at-number-clause-splits : goal.returns-then-number_at-number-clause-splits
returns-then-number_at-number-clause-splits c =
    let some : c.args.lesser < length c.args.seats.now = c.requires.some in
    let inside : c.saturating_sub-likely.result < length c.args.seats.now = omega (arith, some, c.saturating_sub-likely.ensures) in
    let s = at-some c.args.seats.now c.saturating_sub-likely.result inside in
    let own : c.end_number-number.result ≡ number_of c.args.way.now = c.end_number-number.ensures c.requires.way in
    let here : c.number_at.result ≡ number_of (seat_way s.0) = c.number_at.ensures s.0 s.1 in
    let same : number_of (seat_way s.0) ≡ number_of c.args.way.now = omega (arith, here, own, c.if-number_at-number.true) in
    let long = length-places seat_way c.args.seats.now in
    split-at (map seat_way c.args.seats.now) c.args.way.now c.saturating_sub-likely.result c.requires.branch.rising (omega (arith, inside, long))
    (same-branch c.args.seats.now c.args.way.now c.args.lesser c.saturating_sub-likely.result s.0 c.requires.beside c.requires.lesser
    (omega (arith, c.if-likely-lesser.true)) s.1 c.requires.ends same)
