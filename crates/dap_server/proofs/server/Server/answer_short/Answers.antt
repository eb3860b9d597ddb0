use Rattle.std.proofs.lemmas.Result.{IfErr-weaker, on_ok_weaker}
use Rattle.dap_server.specs.Short.{short_bodies}
use Rattle.dap_server.proofs.Sending.{begun_all, sends_all}
use Rattle.dap_server.proofs.server.Server.answer_short.Goals as goal

pub returns-in-Ok-clause-sends : goal.returns-in-Ok-clause-sends
returns-in-Ok-clause-sends g c =
    on_ok_weaker c.send.result
    (sends_all (short_bodies c.args.request.now c.args.gist c.args.self.now.next) c.answer.new.self.batch
    (g.W.Write.contents c.args.writer.now) (g.W.Write.contents c.send.new.writer) c.args.self.now.next c.send.new.next c.in-Ok.ensures)
    c.send.ensures.sends

pub returns-in-Ok-clause-fails : goal.returns-in-Ok-clause-fails
returns-in-Ok-clause-fails g c =
    IfErr-weaker c.send.result _ _
    (λ why. begun_all (short_bodies c.args.request.now c.args.gist c.args.self.now.next) c.answer.new.self.batch why
    (g.W.Write.contents c.args.writer.now) (g.W.Write.contents c.send.new.writer) c.in-Ok.ensures) c.send.ensures.begins
