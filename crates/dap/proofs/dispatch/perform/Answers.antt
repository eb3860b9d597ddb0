use Rattle.dap.proofs.Going.{goes_unseen}
use Rattle.dap.proofs.Seeing.{looked_at, sees_on}
use Rattle.dap.proofs.dispatch.perform.Goals as goal

pub returns-clause-goes : goal.returns-clause-goes
returns-clause-goes c =
    let kept =
    looked_at c.machine.result.now c.args.launched.now.desk.machine c.args.launched.now.program.sight c.keep_sight.new.sight
    c.machine.ensures c.keep_sight.ensures in
    goes_unseen c.args.launched.now c.act.new.launched c.args.request.now c.args.answer.now c.act.new.answer c.keep_sight.new.sight
    c.renew_sight.new.sight c.forget_refusal.new.memo c.forget_refusal.ensures kept
    (sees_on c.args.launched.now c.act.new.launched c.args.request.now c.args.answer.now c.act.new.answer c.keep_sight.new.sight
    c.renew_sight.new.sight c.may_move-moved.result c.machine-2.result.now kept c.act.ensures c.may_move-moved.ensures
    c.machine-2.ensures c.renew_sight.ensures)
    c.act.ensures

pub returns-clause-sees : goal.returns-clause-sees
returns-clause-sees c =
    let kept =
    looked_at c.machine.result.now c.args.launched.now.desk.machine c.args.launched.now.program.sight c.keep_sight.new.sight
    c.machine.ensures c.keep_sight.ensures in
    sees_on c.args.launched.now c.act.new.launched c.args.request.now c.args.answer.now c.act.new.answer c.keep_sight.new.sight
    c.renew_sight.new.sight c.may_move-moved.result c.machine-2.result.now kept c.act.ensures c.may_move-moved.ensures
    c.machine-2.ensures c.renew_sight.ensures
