use Rattle.std.proofs.Common.{◌+◌, ◌∷◌, subst, Option}
use Rattle.std.proofs.lemmas.Result.{on_ok_weaker}
use Rattle.dap_messages.specs.declared.told.Told.{Told}
use Rattle.dap_server.specs.Sent.{IsBatch}
use Rattle.dap_server.specs.Short.{due_bodies, short_response}
use Rattle.dap_server.proofs.Sending.{short_made}
use Rattle.dap_server.proofs.room.Room.answer.Goals as goal

pub returns-in-Ok : goal.returns-in-Ok
returns-in-Ok c =
    let first = short_response c.args.request.now c.args.gist c.args.seq in
    on_ok_weaker c.add_due.result
    (λ h. subst (λ (due : Option Told). IsBatch (first ∷ due_bodies c.args.request.now due (c.args.seq + 1)) c.add_due.new.self.batch)
    c.due_of.ensures
    (short_made c.args.request.now c.due_of.result first (c.args.seq + 1) c.respond.new.self.batch c.add_due.new.self.batch c.in-Ok.ensures h))
    c.add_due.ensures
