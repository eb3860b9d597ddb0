use Rattle.std.proofs.Common.{inl, refl, subst}
use Rattle.runs.specs.Live.{Live, LastWriter, NoWriter}
use Rattle.rollback.proofs.blame.Goals as goal

pub returns-in-Some : goal.returns-in-Some
returns-in-Some c =
    let last = subst (λ (l : Live). LastWriter l c.args.variable c.in-Some.ticket) c.live_events.ensures.live c.in-Some.ensures in
    record { blamed = last; refused = tt; answers = inl (last, refl); never_memory = tt }

pub returns-in-None : goal.returns-in-None
returns-in-None c =
    let none = subst (λ (l : Live). NoWriter l c.args.variable) c.live_events.ensures.live c.in-None.ensures in
    record { blamed = tt; refused = (refl, none); answers = inl (none, refl); never_memory = λ is. cc }
