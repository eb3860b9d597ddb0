use Rattle.std.proofs.Common.{◌∙◌, ℕ, length, refl, sym, subst}
use Rattle.std.proofs.lemmas.List.{length_push}
use Rattle.dependence.proofs.public.Turns.{turn, turn-live, ended}
use Rattle.trace_file.proofs.Waits.{Counted, counted-all, counted-more}
use Rattle.trace_file.proofs.queue.leads_of_all.Goals as goal

pub leads-requires : goal.leads-requires
leads-requires c =
    let all = c.into_iter-ticket-iterator.ensures.into_iter_gives ∙ c.iter-ticket-items.ensures.events in
    turn-live _ _ _ _ c.loop-ticket.yielded _ all c.loop-ticket.yielded_by c.in-Some.ensures.steps

pub loop-ticket-preserved : goal.loop-ticket-preserved
loop-ticket-preserved c =
    let all = c.into_iter-ticket-iterator.ensures.into_iter_gives ∙ c.iter-ticket-items.ensures.events in
    let at = turn _ _ _ _ c.loop-ticket.yielded _ _ all refl c.loop-ticket.yielded_by c.in-Some.ensures.steps in
    subst (λ (n : ℕ). Counted c.args.live.now.live c.push.new.self.items n) (sym (length_push c.loop-ticket.yielded _))
    (counted-more c.args.live.now.live c.loop-ticket.left.items c.push.new.self.items c.leads.result.now (length c.loop-ticket.yielded) _ _ _
    c.loop-ticket.invariant at c.leads.ensures refl c.in_ok-push.ensures.items)

pub returns : goal.returns
returns c =
    let all = c.into_iter-ticket-iterator.ensures.into_iter_gives ∙ c.iter-ticket-items.ensures.events in
    counted-all c.args.live.now.live c.loop-ticket.left.items (length c.loop-ticket.yielded) c.loop-ticket.invariant
    (ended _ _ _ c.loop-ticket.yielded all c.loop-ticket.yielded_by c.in-None.ensures.steps.0)
