use Rattle.std.proofs.Common.{ℕ, subst, arith}
use Rattle.dependence.specs.internal.Tickets.{Parts}
use Rattle.dependence.proofs.TicketLaws.{none-less, last-less}
use Rattle.dependence.proofs.tickets.last_below.Goals as goal

pub returns-then-count-eq0 : goal.returns-then-count-eq0
returns-then-count-eq0 c = λ t i less.
    none-less c.args.tickets.now c.args.below t (subst (λ (n : ℕ). Parts c.args.tickets.now c.args.below n) c.if-count-eq0.true c.count_below-count.ensures) i less

pub returns : goal.returns
returns c =
    last-less c.args.tickets.now c.args.below c.count_below-count.result c.requires c.count_below-count.ensures (omega (arith, c.if-count-eq0.false))
