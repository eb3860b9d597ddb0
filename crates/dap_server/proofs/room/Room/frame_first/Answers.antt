use Rattle.std.proofs.Common.{refl}
use Rattle.std.proofs.lemmas.Result.{on_ok_weaker}
use Rattle.dap_server.proofs.Sending.{first_framed}
use Rattle.dap_server.proofs.room.Room.frame_first.Goals as goal

pub returns : goal.returns
returns c =
    on_ok_weaker c.add_framed.result
    (first_framed c.args.self.now.body.items c.as_slice.result.now c.clear.new.self.items _ refl c.as_slice.ensures.value c.clear.ensures.items)
    c.add_framed.ensures
