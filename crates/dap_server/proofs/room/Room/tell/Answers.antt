use Rattle.std.proofs.lemmas.Result.{on_ok_weaker}
use Rattle.dap_server.specs.Short.{short_line}
use Rattle.dap_server.proofs.Sending.{first_is}
use Rattle.dap_server.proofs.room.Room.tell.Goals as goal

pub returns-in-Ok : goal.returns-in-Ok
returns-in-Ok c =
    on_ok_weaker c.frame_first.result
    (first_is (short_line c.args.line.now c.args.seq) c.write_line.new.body.items c.frame_first.new.self.batch c.in-Ok.ensures)
    c.frame_first.ensures
