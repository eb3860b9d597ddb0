use Rattle.serde_json.specs.View.{view}
use Rattle.dap_requests.proofs.Moving.{tells_elsewhere, tells_in}
use Rattle.dap_requests.proofs.Setting.{sets_elsewhere, sets_in}
use Rattle.dap_requests.proofs.breakpoints.set_lines.Goals as goal

pub returns-then-is_meant-clause-sets : goal.returns-then-is_meant-clause-sets
returns-then-is_meant-clause-sets c =
    let d = view c.args.request.now.arguments in
    sets_in c.args.machine.now.checked.main d c.args.program.now c.set_anew.new.answer c.set_anew.new.program c.path_in-path.result.now
    c.is_at-own.result c.is_meant.result c.path_in-path.ensures c.is_at-own.ensures c.is_meant.ensures c.if-is_meant.true c.set_anew.ensures.sets

pub returns-then-is_meant-clause-tells : goal.returns-then-is_meant-clause-tells
returns-then-is_meant-clause-tells c =
    tells_in (view c.args.request.now.arguments) c.args.program.now c.args.answer.now c.set_anew.new.program c.set_anew.new.answer
    c.path_in-path.result.now c.is_at-own.result c.is_meant.result c.path_in-path.ensures c.is_at-own.ensures c.is_meant.ensures c.if-is_meant.true
    c.set_anew.ensures.tells

pub returns-else-is_meant-clause-sets : goal.returns-else-is_meant-clause-sets
returns-else-is_meant-clause-sets c =
    let d = view c.args.request.now.arguments in
    sets_elsewhere c.args.machine.now.checked.main d c.args.program.now c.set_none.new.answer c.path_in-path.result.now c.is_at-own.result
    c.is_meant.result c.path_in-path.ensures c.is_at-own.ensures c.is_meant.ensures c.if-is_meant.false c.set_none.ensures.none

pub returns-else-is_meant-clause-tells : goal.returns-else-is_meant-clause-tells
returns-else-is_meant-clause-tells c =
    tells_elsewhere (view c.args.request.now.arguments) c.args.program.now c.args.answer.now c.args.program.now c.set_none.new.answer
    c.path_in-path.result.now c.is_at-own.result c.is_meant.result c.path_in-path.ensures c.is_at-own.ensures c.is_meant.ensures
    c.if-is_meant.false c.set_none.ensures.quiet
