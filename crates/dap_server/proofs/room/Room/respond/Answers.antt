use Rattle.std.proofs.lemmas.Result.{on_ok_weaker}
use Rattle.dap_server.specs.Short.{short_response}
use Rattle.dap_server.proofs.Sending.{first_is}
use Rattle.dap_server.proofs.room.Room.respond.Goals as goal

pub returns-in-Ok : goal.returns-in-Ok
returns-in-Ok c =
    on_ok_weaker c.frame_first.result
    (first_is (short_response c.args.request.now c.args.gist c.args.seq) c.write_response.new.body.items c.frame_first.new.self.batch
    c.in-Ok.ensures) c.frame_first.ensures
