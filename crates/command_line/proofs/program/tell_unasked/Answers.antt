use Rattle.std.proofs.Common.{◌∙◌, sym, refl, Err}
use Rattle.debug_session.specs.declared.fault.Fault.TheVariants.{Memory}
use Rattle.file_answers.specs.Used.{used}
use Rattle.command_line.proofs.RunningLemmas.{told-alone}
use Rattle.command_line.proofs.program.tell_unasked.Goals as goal

pub tell_help-requires : goal.tell_help-requires
tell_help-requires g c = λ e. (rw c.in-Help.is at c.requires) (sym c.as_bytes.ensures.value ∙ e)

pub tell_mistake-requires : goal.tell_mistake-requires
tell_mistake-requires g c =
    λ e. (rw c.in-Mistake.is at c.requires) (sym c.as_bytes-in-Mistake.ensures.value ∙ e)

pub returns-in-Memory-clause-told : goal.returns-in-Memory-clause-told
returns-in-Memory-clause-told g c = rw c.in-Memory.is (
  c.finish.ensures.status,
  refl,
  (
    c.finish.result.told,
    told-alone (Err Memory) (used g.E.Write.contents c.args.err.now c.finish.new.err) c.finish.result.told
        c.finish.ensures.told,
  ),
)

pub returns-in-Help-clause-told : goal.returns-in-Help-clause-told
returns-in-Help-clause-told g c = rw c.in-Help.is c.tell_help.ensures.told

pub returns-in-Mistake-clause-told : goal.returns-in-Mistake-clause-told
returns-in-Mistake-clause-told g c =
    rw c.in-Mistake.is (c.tell_mistake.ensures.status, refl, c.tell_mistake.ensures.told)
