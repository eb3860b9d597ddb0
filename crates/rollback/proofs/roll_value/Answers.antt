use Rattle.std.proofs.Common.{inl, refl, sym, subst}
use Rattle.runs.specs.Does.{RefusesVariable}
use Rattle.runs.specs.declared.command.Refusal.{Refusal}
use Rattle.runs.proofs.public.ObjectLaws.{rolled-value}
use Rattle.machine.specs.AtMachine.{object}
use Rattle.rollback.proofs.RollbackLemmas.{value-taken}
use Rattle.rollback.proofs.roll_value.Goals as goal

pub roll_live-requires : goal.roll_live-requires
roll_live-requires c = (c.in-Ok.ensures.blamed.event, c.in-Ok.ensures.blamed.live)

pub returns-in-Ok-clause-taken : goal.returns-in-Ok-clause-taken
returns-in-Ok-clause-taken c =
    value-taken (object c.args.machine.now) (object c.roll_live.new.machine) c.args.variable c.roll_live.result c.is_sound.ensures.sound
    (c.in-Ok.ticket, c.in-Ok.ensures.blamed, c.roll_live.ensures.rolled.1)

pub returns-in-Ok-clause-value : goal.returns-in-Ok-clause-value
returns-in-Ok-clause-value c =
    rolled-value (object c.args.machine.now) c.is_sound.ensures.sound (object c.roll_live.new.machine) c.args.variable c.roll_live.result
    (c.in-Ok.ticket, c.in-Ok.ensures.blamed, c.roll_live.ensures.rolled.1)

pub returns-in-Ok-clause-answers : goal.returns-in-Ok-clause-answers
returns-in-Ok-clause-answers c = inl (c.in-Ok.ticket, c.in-Ok.ensures.blamed, c.roll_live.ensures.rolled.1)

pub returns-in-Err-clause-answers : goal.returns-in-Err-clause-answers
returns-in-Err-clause-answers c =
    let refused = c.in-Err.ensures.refused in
    inl (subst (λ (why : Refusal). RefusesVariable (object c.args.machine.now) c.args.variable why) (sym refused.0) refused.1, refl)
