use Rattle.std.proofs.Common.{ℕ, List, ◌<◌, length, subst, sym, true≢false, ◌∙◌, arith}
use Rattle.syntax.specs.Lists.{In}
use Rattle.dependence.specs.internal.Tickets.{Ascends}
use Rattle.dependence.proofs.TicketLaws.{among-within, gone-ascends, gone-in, gone-absent, same-parts, same-among}
use Rattle.dependence.proofs.tickets.remove_ticket.Goals as goal

pub remove-requires : goal.remove-requires
remove-requires c =
    let ts : List ℕ = c.args.tickets.now.items in
    let parts = same-parts c.as_slice.result.now ts c.args.ticket c.count_below-count.result c.as_slice.ensures.value c.count_below-count.ensures in
    let inside = subst (In c.args.ticket) c.as_slice-2.ensures.value (c.is_among.ensures.0 c.if-is_among.true) in
    let less : c.count_below-count.result < length ts = among-within ts c.args.ticket c.count_below-count.result parts inside in
    omega (arith, less, c.args.tickets.now.ok)

pub returns-then-is_among-clause-ascends : goal.returns-then-is_among-clause-ascends
returns-then-is_among-clause-ascends c =
    let ts : List ℕ = c.args.tickets.now.items in
    let parts = same-parts c.as_slice.result.now ts c.args.ticket c.count_below-count.result c.as_slice.ensures.value c.count_below-count.ensures in
    let inside = subst (In c.args.ticket) c.as_slice-2.ensures.value (c.is_among.ensures.0 c.if-is_among.true) in
    subst Ascends (sym c.remove.ensures.items) (gone-ascends ts c.args.ticket c.count_below-count.result c.requires parts inside)

pub returns-then-is_among-clause-removed : goal.returns-then-is_among-clause-removed
returns-then-is_among-clause-removed c = λ t.
    let ts : List ℕ = c.args.tickets.now.items in
    let parts = same-parts c.as_slice.result.now ts c.args.ticket c.count_below-count.result c.as_slice.ensures.value c.count_below-count.ensures in
    let inside = subst (In c.args.ticket) c.as_slice-2.ensures.value (c.is_among.ensures.0 c.if-is_among.true) in
    same-among c.remove.new.self.items _ _ t c.remove.ensures.items (gone-in ts c.args.ticket c.count_below-count.result c.requires parts inside t)

pub returns-else-is_among-clause-removed : goal.returns-else-is_among-clause-removed
returns-else-is_among-clause-removed c = λ t.
    gone-absent c.args.tickets.now.items c.args.ticket t
    (λ i. true≢false (sym (c.is_among.ensures.1 (subst (In c.args.ticket) (sym c.as_slice-2.ensures.value) i)) ∙ c.if-is_among.false))
