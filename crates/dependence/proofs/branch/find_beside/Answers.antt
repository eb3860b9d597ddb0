use Rattle.std.proofs.Common.{◌≡◌, ◌-◌, List, length, map, sym, ap, subst, ◌∙◌, true≢false, arith}
use Rattle.address.specs.declared.Entry.{Entry}
use Rattle.dependence.specs.internal.Search.{Splits}
use Rattle.dependence.specs.internal.Seats.{ordered_of, seat_way, HasSeat}
use Rattle.dependence.proofs.BesideLaws.{all-lesser, all-lesser-way, group-of, group-within, none-past}
use Rattle.dependence.proofs.ListLaws.{map-at}
use Rattle.dependence.proofs.SearchLaws.{length-places, split-all, split-at}
use Rattle.dependence.proofs.SeatLaws.{has-within}
use Rattle.dependence.proofs.WayLaws.{all-ordered, ends-way}
use Rattle.dependence.proofs.branch.find_beside.Goals as goal

pub overflow_sub-result : goal.overflow_sub-result
overflow_sub-result c = let within = has-within c.args.seats.now (length c.args.seats.now - 1) c.args.last.now c.requires.last in omega (arith, within)

pub returns-then-is_same-clause-lesser : goal.returns-then-is_same-clause-lesser
returns-then-is_same-clause-lesser c =
    subst (λ (w : List Entry). Splits (map seat_way c.args.seats.now) (ordered_of w) c.args.group) (c.is_same.ensures.0 c.if-is_same.true)
    (group-of c.args.seats.now c.args.group c.args.last.now c.requires.sorted.begins c.requires.last)

pub returns-then-is_same-clause-splits : goal.returns-then-is_same-clause-splits
returns-then-is_same-clause-splits c =
    let within = has-within c.args.seats.now (length c.args.seats.now - 1) c.args.last.now c.requires.last in
    let long = length-places seat_way c.args.seats.now in
    split-at (map seat_way c.args.seats.now) c.args.way.now (length c.args.seats.now - 1) c.requires.sorted.branch.rising (omega (arith, within, long))
    (subst (λ (w : List Entry). HasSeat c.args.seats.now (length c.args.seats.now - 1) w) (c.is_same.ensures.0 c.if-is_same.true) c.requires.last)

pub returns-then-is_same-clause-yes : goal.returns-then-is_same-clause-yes
returns-then-is_same-clause-yes c = λ holds.
    subst (λ (w : List Entry). HasSeat c.args.seats.now (length c.args.seats.now - 1) w) (c.is_same.ensures.0 c.if-is_same.true) c.requires.last

pub returns-then-not-ends_at_branch-clause-lesser : goal.returns-then-not-ends_at_branch-clause-lesser
returns-then-not-ends_at_branch-clause-lesser c =
    let ordered = c.ends_at_branch.ensures.event c.if-not-ends_at_branch.true in
    subst (λ (w : List Entry). Splits (map seat_way c.args.seats.now) w (length c.args.seats.now)) (sym (all-ordered c.args.way.now ordered))
    (split-all (map seat_way c.args.seats.now) c.args.way.now (length c.args.seats.now) (sym (length-places seat_way c.args.seats.now)) (c.requires.event ordered))

pub returns-then-not-ends_at_branch-clause-splits : goal.returns-then-not-ends_at_branch-clause-splits
returns-then-not-ends_at_branch-clause-splits c =
    let ordered = c.ends_at_branch.ensures.event c.if-not-ends_at_branch.true in
    split-all (map seat_way c.args.seats.now) c.args.way.now (length c.args.seats.now) (sym (length-places seat_way c.args.seats.now)) (c.requires.event ordered)

pub returns-then-not-ends_at_branch-clause-no : goal.returns-then-not-ends_at_branch-clause-no
returns-then-not-ends_at_branch-clause-no c = λ fails there. none-past c.args.seats.now c.args.way.now there

pub ordered-requires : goal.ordered-requires
ordered-requires c = ends-way c.args.last.now c.requires.ends

pub returns-then-not-is_same-clause-lesser : goal.returns-then-not-is_same-clause-lesser
returns-then-not-is_same-clause-lesser c =
    let s = map-at seat_way c.args.seats.now (length c.args.seats.now - 1) c.args.last.now c.requires.last in
    all-lesser c.args.seats.now s.0 c.args.way.now c.requires.sorted.branch c.requires.way c.requires.beside s.1
    (λ same ends.
    true≢false
    (sym (c.is_same-2.ensures.1 (c.ordered.ensures ∙ (ap ordered_of (sym s.2) ∙ (same ∙ sym c.ordered-2.ensures)))) ∙ c.if-not-is_same.true))

pub returns-then-not-is_same-clause-splits : goal.returns-then-not-is_same-clause-splits
returns-then-not-is_same-clause-splits c =
    let s = map-at seat_way c.args.seats.now (length c.args.seats.now - 1) c.args.last.now c.requires.last in
    all-lesser-way c.args.seats.now s.0 c.args.way.now c.requires.sorted.branch c.requires.way c.requires.beside s.1
    (λ same ends.
    true≢false
    (sym (c.is_same-2.ensures.1 (c.ordered.ensures ∙ (ap ordered_of (sym s.2) ∙ (same ∙ sym c.ordered-2.ensures)))) ∙ c.if-not-is_same.true))

pub returns-then-not-is_same-clause-no : goal.returns-then-not-is_same-clause-no
returns-then-not-is_same-clause-no c = λ fails there. none-past c.args.seats.now c.args.way.now there

pub find_branch-index-requires : goal.find_branch-index-requires
find_branch-index-requires c =
    let same : ordered_of c.args.last.now ≡ ordered_of c.args.way.now =
    sym c.ordered.ensures ∙ (c.is_same-2.ensures.0 c.if-not-is_same.false ∙ c.ordered-2.ensures) in
    let own = group-of c.args.seats.now c.args.group c.args.last.now c.requires.sorted.begins c.requires.last in
    record {
      branch = c.requires.sorted.branch;
      way = c.requires.way;
      ends = c.ends_at_branch.ensures.branch c.if-not-ends_at_branch.false;
      beside = c.requires.beside;
      lesser = subst (λ (p : List Entry). Splits (map seat_way c.args.seats.now) p c.args.group) same own;
      some = group-within c.args.seats.now c.args.group c.args.last.now own c.requires.last;
    }

pub returns-clause-lesser : goal.returns-clause-lesser
returns-clause-lesser c =
    let same : ordered_of c.args.last.now ≡ ordered_of c.args.way.now =
    sym c.ordered.ensures ∙ (c.is_same-2.ensures.0 c.if-not-is_same.false ∙ c.ordered-2.ensures) in
    subst (λ (p : List Entry). Splits (map seat_way c.args.seats.now) p c.args.group) same
    (group-of c.args.seats.now c.args.group c.args.last.now c.requires.sorted.begins c.requires.last)
