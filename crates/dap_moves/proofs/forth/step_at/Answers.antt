use Rattle.std.proofs.Common.{lit<}
use Rattle.locked_execution.specs.declared.command.Command.{Command}
use Rattle.dap_moves.proofs.public.Leading.{led_by_one}
use Rattle.dap_moves.proofs.forth.step_at.Goals as goal

pub returns-in-Ok-clause-led : goal.returns-in-Ok-clause-led
returns-in-Ok-clause-led c =
    led_by_one c.args.desk.now c.perform.new.self 15 (Command.Step c.in-Ok.choice) c.perform.result (lit< tt) c.perform.ensures.answers
