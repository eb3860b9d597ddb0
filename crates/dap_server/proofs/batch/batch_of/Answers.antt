use Rattle.std.proofs.lemmas.Result.{IfOk-weaker}
use Rattle.dap_server.proofs.Sending.{answers_with}
use Rattle.dap_server.proofs.batch.batch_of.Goals as goal

pub returns-in-Ok : goal.returns-in-Ok
returns-in-Ok c =
    IfOk-weaker c.framed_all.result _ _ (answers_with c.args.request.now c.args.answer c.args.next c.in-Ok.messages.items c.in-Ok.ensures)
    c.framed_all.ensures
