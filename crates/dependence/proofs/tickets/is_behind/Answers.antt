use Rattle.std.proofs.Common.{◌≡◌, ◌-◌, suc, arith}
use Rattle.dependence.proofs.TicketLaws.{all-below, last-not-below}
use Rattle.dependence.proofs.tickets.is_behind.Goals as goal

pub returns-then-last-bound-clause-all : goal.returns-then-last-bound-clause-all
returns-then-last-bound-clause-all c = λ yes.
    let some : c.args.count ≡ suc (c.args.count - 1) = omega (arith, c.if-count-eq0.false) in
    all-below c.args.tickets.now c.args.bound c.args.count (c.args.count - 1) c.requires.ascends some c.requires.within c.if-last-bound.true

pub returns-clause-none : goal.returns-clause-none
returns-clause-none c = λ no.
    let some : c.args.count ≡ suc (c.args.count - 1) = omega (arith, c.if-count-eq0.false) in
    last-not-below c.args.tickets.now c.args.bound c.args.count (c.args.count - 1) c.requires.ascends some c.requires.within (omega (arith, c.if-last-bound.false))
