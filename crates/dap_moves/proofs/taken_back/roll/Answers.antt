use Rattle.std.proofs.Common.{lit<}
use Rattle.locked_execution.specs.declared.command.Command.{Command}
use Rattle.dap_moves.proofs.public.Leading.{led_by_one}
use Rattle.dap_moves.proofs.GoingOut.{rolls_all}
use Rattle.dap_moves.proofs.taken_back.roll.Goals as goal

pub returns-clause-led : goal.returns-clause-led
returns-clause-led c =
    led_by_one c.args.desk.now c.perform-answered.new.self 15 (Command.Roll c.args.ticket) c.perform-answered.result (lit< tt) c.perform-answered.ensures.answers

pub returns-clause-rolled : goal.returns-clause-rolled
returns-clause-rolled c =
    rolls_all c.args.desk.now c.perform-answered.new.self c.args.ticket c.perform-answered.result c.requires c.perform-answered.ensures.answers
