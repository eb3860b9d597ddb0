use Rattle.std.proofs.Common.{lit<, sym, subst}
use Rattle.locked_execution.specs.declared.command.Command.{Command}
use Rattle.dap_moves.specs.declared.run.Turn.{Turn}
use Rattle.dap_moves.specs.internal.Turning.{StepsIfNext}
use Rattle.dap_moves.proofs.public.Leading.{led_by_one}
use Rattle.dap_moves.proofs.Running.{branch_took}
use Rattle.dap_moves.proofs.run.step_branch.Goals as goal

pub returns : goal.returns
returns c =
    let plan = c.args.plan.now in
    let d = c.args.desk.now in
    let d' = c.perform.new.self in
    record {
      led = led_by_one d d' 15 (Command.Branch c.args.branch) c.perform.result (lit< tt) c.perform.ensures.answers;
      system = c.perform.ensures.system;
      takes =
          subst (λ (turn : Turn). StepsIfNext plan d d' c.args.branch turn) (sym c.told.ensures)
          (branch_took plan d d' c.args.branch c.perform.result c.requires.free c.requires.may c.in_default.not-Idle c.perform.ensures.answers);
    }
