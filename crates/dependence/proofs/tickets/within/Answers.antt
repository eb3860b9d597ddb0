use Rattle.std.proofs.Common.{ℕ, List, take, subst, sym, ap, ◌∙◌}
use Rattle.syntax.specs.Lists.{In}
use Rattle.dependence.specs.internal.Tickets.{Ascends, Parts}
use Rattle.dependence.proofs.TicketLaws.{later-ascends, between-in}
use Rattle.dependence.proofs.tickets.within.Goals as goal

pub count_below-requires-2 : goal.count_below-requires-2
count_below-requires-2 c = subst Ascends (sym c.split_at.ensures.back) (later-ascends c.args.tickets.now c.count_below.result c.requires)

pub returns : goal.returns
returns c = λ t.
    let ts : List ℕ = c.args.tickets.now in
    let n : ℕ = c.count_below.result in
    let m : ℕ = c.count_below-2.result in
    let parts = subst (λ (k : List ℕ). Parts k c.args.below m) c.split_at.ensures.back c.count_below-2.ensures in
    let those = between-in ts c.args.from c.args.below n m t c.count_below.ensures parts in
    let is = c.split_at-2.ensures.front ∙ ap (λ (k : List ℕ). take m k) c.split_at.ensures.back in
    (λ i. those.0 (subst (In t) is i), λ k. subst (In t) (sym is) (those.1 k))
