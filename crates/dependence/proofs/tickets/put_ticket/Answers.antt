use Rattle.std.proofs.Common.{ℕ, List, subst, sym, true≢false, ◌∙◌}
use Rattle.syntax.specs.Lists.{In}
use Rattle.dependence.specs.internal.Tickets.{Ascends}
use Rattle.dependence.proofs.TicketLaws.{put-ascends, put-in, put-there, same-parts, same-among}
use Rattle.dependence.proofs.tickets.put_ticket.Goals as goal

pub returns-clause-ascends : goal.returns-clause-ascends
returns-clause-ascends c =
    let ts : List ℕ = c.args.tickets.now.items in
    let parts = same-parts c.as_slice.result.now ts c.args.ticket c.count_below-count.result c.as_slice.ensures.value c.count_below-count.ensures in
    subst Ascends (sym c.in_ok-insert_at.ensures.put)
    (put-ascends ts c.args.ticket c.count_below-count.result c.requires parts
    (λ i. true≢false (sym (c.is_among.ensures.1 (subst (In c.args.ticket) (sym c.as_slice-2.ensures.value) i)) ∙ c.if-is_among.false)))

pub returns-clause-put : goal.returns-clause-put
returns-clause-put c = λ t.
    let ts : List ℕ = c.args.tickets.now.items in
    let parts = same-parts c.as_slice.result.now ts c.args.ticket c.count_below-count.result c.as_slice.ensures.value c.count_below-count.ensures in
    same-among c.insert_at.new.items.items _ _ t c.in_ok-insert_at.ensures.put (put-in ts c.args.ticket c.count_below-count.result c.requires parts t)

pub returns-then-is_among-clause-put : goal.returns-then-is_among-clause-put
returns-then-is_among-clause-put c = λ t.
    put-there c.args.tickets.now.items c.args.ticket t (subst (In c.args.ticket) c.as_slice-2.ensures.value (c.is_among.ensures.0 c.if-is_among.true))
