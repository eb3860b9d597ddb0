use Rattle.std.proofs.Common.{ℕ, subst}
use Rattle.std.proofs.lemmas.Result.{on_ok_weaker}
use Rattle.dap_server.specs.Sent.{IsBehind}
use Rattle.dap_server.specs.Short.{short_event}
use Rattle.dap_server.proofs.room.Room.add_event.Goals as goal

pub returns-in-Ok : goal.returns-in-Ok
returns-in-Ok c =
    on_ok_weaker c.add_numbered.result
    (λ h. subst (λ (n : ℕ). IsBehind c.args.self.now.batch (short_event c.args.request.now c.args.told n) c.add_numbered.new.self.batch)
    c.in-Ok.ensures h) c.add_numbered.ensures
