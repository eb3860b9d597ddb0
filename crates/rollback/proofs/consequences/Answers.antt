use Rattle.std.proofs.Common.{inl, refl, subst}
use Rattle.std.specs.Prelude.{IfOk}
use Rattle.runs.specs.Live.{Live, IsLive, NoneAt, ConsequencesList}
use Rattle.machine.specs.AtMachine.{object}
use Rattle.machine.proofs.public.Standing.{live-at}
use Rattle.rollback.proofs.RollbackLemmas.{listed, dependents, no-dependents}
use Rattle.rollback.proofs.consequences.Goals as goal

pub consequences-requires : goal.consequences-requires
consequences-requires c =
    (c.in-Some.ensures.0, live-at _ c.args.ticket c.in-Some.field-0 c.in-Some.ensures.0 c.in-Some.ensures.1)

pub returns-in-Some : goal.returns-in-Some
returns-in-Some c =
    let o = object c.args.machine.now in
    let answers =
    listed o c.args.ticket c.consequences.result c.or_no_memory.result
    (subst (λ (l : Live). IsLive l c.args.ticket) c.live_events-live.ensures.live
    (c.in-Some.ensures.0, live-at _ c.args.ticket c.in-Some.field-0 c.in-Some.ensures.0 c.in-Some.ensures.1))
    (subst (λ (l : Live). IfOk c.consequences.result (λ tickets. ConsequencesList l c.args.ticket tickets.items)) c.live_events-live.ensures.live
    c.consequences.ensures)
    c.or_no_memory.ensures in
    record {
      told = dependents o o c.args.ticket c.or_no_memory.result c.is_sound.ensures.sound answers;
      refused = no-dependents o o c.args.ticket c.or_no_memory.result answers;
      answers = answers;
    }

pub returns-in-None : goal.returns-in-None
returns-in-None c =
    let none = subst (λ (l : Live). NoneAt l c.args.ticket) c.live_events-live.ensures.live c.in-None.ensures in
    record { told = tt; refused = inl (refl, none); answers = inl (none, refl) }
