use Rattle.dap_moves.proofs.Passing.{passes_one_action, second_action, stops_first}
use Rattle.dap_moves.proofs.run.line_of_actions.Goals as goal

pub returns-in-Some : goal.returns-in-Some
returns-in-Some c = stops_first c.args.machine.now c.args.lines.now c.args.event.now c.in-Some.found.0 c.in-Some.found.1 c.in-Some.ensures

pub returns-in-Some-second : goal.returns-in-Some-second
returns-in-Some-second c =
    second_action c.args.machine.now c.args.lines.now c.args.event.now c.in-Some-second.place c.line_at-in-Some-second.result c.in_default.ensures
    c.in-Some-second.is c.line_at-in-Some-second.ensures

pub returns-in-None : goal.returns-in-None
returns-in-None c = passes_one_action c.args.machine.now c.args.lines.now c.args.event.now c.in_default.ensures c.in-None.is
