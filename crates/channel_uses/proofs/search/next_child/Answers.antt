use Rattle.std.proofs.Common.{MatchOption, subst, sym}
use Rattle.channel_uses.specs.internal.Parts.{end, parts, AreParts, EndAt, UnusedFrom, UnusedBetween}
use Rattle.channel_uses.proofs.Searches.{unused-past, unused-none, unused-before, none-past, used-found, none-earlier}
use Rattle.channel_uses.proofs.search.next_child.Goals as goal

pub returns-in_err-from-clause-unused : goal.returns-in_err-from-clause-unused
returns-in_err-from-clause-unused c cs n told h e =
    subst (λ r. MatchOption r (UnusedFrom c.args.channel cs c.args.child) (λ k. UnusedBetween c.args.channel cs c.args.child k)) (sym c.from_residual.ensures)
    (unused-past cs n (parts c.args.part.now) c.args.channel c.args.child h (none-past (parts c.args.part.now) c.args.child c.get.result c.in_err-from.was c.get.ensures.value))

pub returns-in_err-found-clause-unused : goal.returns-in_err-found-clause-unused
returns-in_err-found-clause-unused c cs n told h e =
    subst (λ r. MatchOption r (UnusedFrom c.args.channel cs c.args.child) (λ k. UnusedBetween c.args.channel cs c.args.child k)) (sym c.from_residual-in_err-found.ensures)
    (unused-none c.args.table.now cs n (parts c.args.part.now) c.args.channel c.args.child (end c.args.part.now) c.in_ok-from.field-0.now told h e (sym c.in_ok-from.ensures.value) c.in_err-found.ensures)

pub returns-clause-unused : goal.returns-clause-unused
returns-clause-unused c cs n told h e =
    unused-before c.args.table.now cs n (parts c.args.part.now) c.args.channel c.args.child (end c.args.part.now) c.in_ok-found.found c.ended_before-next.result c.in_ok-from.field-0.now
    told h e (sym c.in_ok-from.ensures.value) c.in_ok-found.ensures
    (subst (λ ps. EndAt ps c.in_ok-found.found c.ended_before-next.result) c.as_slice.ensures
    (c.ended_before-next.ensures.counted cs n (subst (AreParts cs n) (sym c.as_slice.ensures) h)))

pub returns-clause-used : goal.returns-clause-used
returns-clause-used c cs n h e =
    used-found c.args.table.now cs n (parts c.args.part.now) c.args.channel c.args.child (end c.args.part.now) c.in_ok-found.found c.ended_before-next.result c.in_ok-from.field-0.now
    h e (sym c.in_ok-from.ensures.value) c.in_ok-found.ensures
    (subst (λ ps. EndAt ps c.in_ok-found.found c.ended_before-next.result) c.as_slice.ensures
    (c.ended_before-next.ensures.counted cs n (subst (AreParts cs n) (sym c.as_slice.ensures) h)))

pub returns-then-next-child-clause-used : goal.returns-then-next-child-clause-used
returns-then-next-child-clause-used c cs n h e =
    absurd
    (none-earlier c.args.table.now cs n (parts c.args.part.now) c.args.channel c.args.child (end c.args.part.now) c.in_ok-found.found c.ended_before-next.result c.in_ok-from.field-0.now
    h e (sym c.in_ok-from.ensures.value) c.in_ok-found.ensures
    (subst (λ ps. EndAt ps c.in_ok-found.found c.ended_before-next.result) c.as_slice.ensures
    (c.ended_before-next.ensures.counted cs n (subst (AreParts cs n) (sym c.as_slice.ensures) h)))
    c.if-next-child.true)
