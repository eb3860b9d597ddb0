use Rattle.std.proofs.lemmas.Result.{on_ok_weaker}
use Rattle.dap_server.specs.Short.{short_event}
use Rattle.dap_server.proofs.Sending.{second_is}
use Rattle.dap_server.proofs.room.Room.add_numbered.Goals as goal

pub returns-in-Ok : goal.returns-in-Ok
returns-in-Ok c =
    on_ok_weaker c.frame_second.result
    (second_is (short_event c.args.request.now c.args.told c.args.seq) c.write_event.new.body.items c.args.self.now.batch
    c.frame_second.new.self.batch c.in-Ok.ensures) c.frame_second.ensures
