use Rattle.std.proofs.Common.{refl}
use Rattle.std.proofs.lemmas.Result.{on_ok_weaker}
use Rattle.dap_server.proofs.Sending.{second_framed}
use Rattle.dap_server.proofs.room.Room.frame_second.Goals as goal

pub returns : goal.returns
returns c =
    on_ok_weaker c.add_framed.result
    (second_framed c.args.self.now.body.items c.as_slice.result.now c.args.self.now.batch _ refl c.as_slice.ensures.value) c.add_framed.ensures
