use Rattle.std.proofs.Common.{sym, ◌∙◌}
use Rattle.dap_moves.proofs.Passing.{none_left, passes_no_line, stops_acting}
use Rattle.dap_moves.proofs.run.line_among.Goals as goal

pub returns-then-is_empty : goal.returns-then-is_empty
returns-then-is_empty c =
    passes_no_line c.args.machine.now c.args.lines.now c.args.event.now (none_left c.args.lines.now (sym c.is_empty.ensures ∙ c.if-is_empty.true))

pub returns-in-Some : goal.returns-in-Some
returns-in-Some c =
    stops_acting c.args.machine.now c.args.lines.now c.args.event.now c.acting_place.result.now c.in-Some.found.0 c.in-Some.found.1
    c.acting_place.ensures c.in-Some.ensures
