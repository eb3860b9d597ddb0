use Rattle.std.proofs.Common.{inl, refl, subst}
use Rattle.runs.specs.Live.{Live, IsLive, NoneAt}
use Rattle.machine.specs.AtMachine.{object}
use Rattle.machine.proofs.public.Standing.{live-at}
use Rattle.rollback.proofs.RollbackLemmas.{taken}
use Rattle.rollback.proofs.roll.Goals as goal

pub roll_live-requires : goal.roll_live-requires
roll_live-requires c =
    subst (λ (l : Live). IsLive l c.args.ticket) c.live_events.ensures.live
    (c.in-Some.ensures.0, live-at _ c.args.ticket c.in-Some.field-0 c.in-Some.ensures.0 c.in-Some.ensures.1)

pub returns-in-Some-clause-taken : goal.returns-in-Some-clause-taken
returns-in-Some-clause-taken c =
    taken (object c.args.machine.now) (object c.roll_live.new.machine) c.args.ticket c.roll_live.result c.is_sound.ensures.sound c.roll_live.ensures.rolled

pub returns-in-Some-clause-answers : goal.returns-in-Some-clause-answers
returns-in-Some-clause-answers c = inl c.roll_live.ensures.rolled

pub returns-in-None-clause-refused : goal.returns-in-None-clause-refused
returns-in-None-clause-refused c = (refl, subst (λ (l : Live). NoneAt l c.args.ticket) c.live_events.ensures.live c.in-None.ensures)

pub returns-in-None-clause-answers : goal.returns-in-None-clause-answers
returns-in-None-clause-answers c = inl (subst (λ (l : Live). NoneAt l c.args.ticket) c.live_events.ensures.live c.in-None.ensures, refl)
