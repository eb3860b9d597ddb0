use Rattle.std.proofs.Common.{subst, sym, ◌∙◌}
use Rattle.serde_json.specs.View.{view}
use Rattle.machine.specs.AtMachine.{AtMachine}
use Rattle.dap.specs.Goes.{ShowsBy}
use Rattle.dap.specs.Sets.{Sets}
use Rattle.dap.proofs.Going.{look_goes, moves_goes}
use Rattle.dap.proofs.dispatch.change.Goals as goal

pub returns-then-is_move : goal.returns-then-is_move
returns-then-is_move c =
    moves_goes c.args.launched.now c.args.request.now c.args.answer.now c.make_move.new.answer c.make_move.new.desk c.make_move.new.memo
    (sym c.is_move.ensures ∙ c.if-is_move.true) c.requires.over c.requires.waits c.make_move.ensures.led c.make_move.ensures.goes
    c.make_move.ensures.denied

pub returns-else-is_asked : goal.returns-else-is_asked
returns-else-is_asked c =
    look_goes c.args.launched.now c.args.request.now c.args.answer.now c.look.new.answer c.look.new.program
    (sym c.is_move.ensures ∙ c.if-is_move.false) (sym c.is_asked.ensures ∙ c.if-is_asked.false)
    (subst
    (λ (m : AtMachine). Sets c.args.request.now m.checked.main c.args.launched.now.program c.look.new.answer c.look.new.program)
    c.machine.ensures c.look.ensures.sets) c.look.ensures.tells c.look.ensures.answers
    (subst
    (λ (m : AtMachine). ShowsBy c.args.request.now.kind m c.args.launched.now.program.index c.args.launched.now.program.sight
    (view c.args.request.now.arguments) c.look.new.answer) c.machine.ensures c.look.ensures.shows)
