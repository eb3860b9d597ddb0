use Rattle.runs.specs.declared.command.Refusal.TheVariants.{NeededBy}
use Rattle.std.proofs.Common.{refl, subst}
use Rattle.dap_moves.specs.Moves.{StepsBack}
use Rattle.dap_moves.specs.declared.back.Back.{Back}
use Rattle.machine.specs.AtMachine.{AtMachine}
use Rattle.dap_requests.specs.Back.{StandsBack, stop_back}
use Rattle.dap_requests.proofs.Forward.{needed_live}
use Rattle.dap_requests.proofs.backward.back_in.Goals as goal

pub tell_moved_back-requires : goal.tell_moved_back-requires
tell_moved_back-requires c = λ t u is.
    needed_live c.args.desk.now c.step_back-moved.new.desk c.machine.result.now t u (NeededBy u) c.machine.ensures
    (c.step_back_laws.ensures.refused c.args.desk.now c.step_back-moved.new.desk c.args.branch t (NeededBy u)
    (subst (λ (m : Back). StepsBack c.args.desk.now c.args.branch m c.step_back-moved.new.desk) is c.step_back-moved.ensures.back)) refl

pub returns-clause-goes : goal.returns-clause-goes
returns-clause-goes c =
    let moved = c.step_back-moved.result in
    let told = c.tell_moved_back.ensures.stops in (
      stop_back c.args.program.now.excepts moved,
      told.0,
      told.1,
      (
        moved,
        c.step_back-moved.ensures.back,
        refl,
        subst (λ (m : AtMachine). StandsBack m c.args.branch moved told.0) c.machine.ensures told.2,
        c.tell_moved_back.ensures.seen,
      ),
    )
