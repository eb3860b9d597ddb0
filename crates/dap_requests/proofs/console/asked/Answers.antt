use Rattle.std.proofs.Common.{lit<}
use Rattle.dap_moves.proofs.public.Leading.{led_by_one}
use Rattle.dap_requests.proofs.console.asked.Goals as goal

pub returns-clause-led : goal.returns-clause-led
returns-clause-led c =
    led_by_one c.args.desk.now c.perform.new.self 0 c.args.command.now c.perform.result (lit< tt) c.perform.ensures.answers
