use Rattle.std.proofs.Common.{◌+◌, refl}
use Rattle.std.proofs.lemmas.Result.{on_ok_weaker}
use Rattle.dap_server.proofs.Sending.{due_added, due_none}
use Rattle.dap_server.proofs.room.Room.add_due.Goals as goal

pub returns-in-Some : goal.returns-in-Some
returns-in-Some c =
    on_ok_weaker c.add_event.result
    (due_added c.args.request.now c.args.due c.in-Some.told (c.args.seq + 1) c.args.self.now.batch c.add_event.new.self.batch c.in-Some.is)
    c.add_event.ensures

pub returns-in-None : goal.returns-in-None
returns-in-None c = due_none c.args.request.now c.args.due (c.args.seq + 1) c.args.self.now.batch c.args.self.now.batch c.in-None.is refl
