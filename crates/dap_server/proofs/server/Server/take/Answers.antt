use Rattle.std.proofs.lemmas.Result.{IfErr-weaker, on_ok_weaker}
use Rattle.dap_server.proofs.Sessions.{hears_other, hears_request, other_breaks, request_breaks}
use Rattle.dap_server.proofs.server.Server.take.Goals as goal

pub returns-in-Ok-clause-serves : goal.returns-in-Ok-clause-serves
returns-in-Ok-clause-serves g c =
    on_ok_weaker c.answer.result
    (hears_request (g.A.Adapter.answers c.args.context.now) g.A.Adapter.over c.args.adapter.now c.answer.new.adapter c.in-Ok.request c.args.self.now.next c.answer.new.self.next
    c.args.from c.args.to c.args.self.now.input c.body.result.now (g.W.Write.contents c.args.writer.now) (g.W.Write.contents c.answer.new.writer)
    c.requires c.body.ensures c.in-Ok.ensures) c.answer.ensures.answers

pub returns-in-Err-clause-serves : goal.returns-in-Err-clause-serves
returns-in-Err-clause-serves g c =
    on_ok_weaker c.tell.result
    (hears_other (g.A.Adapter.answers c.args.context.now) g.A.Adapter.over c.args.adapter.now c.in-Err.unread c.args.self.now.next c.tell.new.self.next
    c.args.from c.args.to c.args.self.now.input c.body.result.now c.words_of.result.now (g.W.Write.contents c.args.writer.now)
    (g.W.Write.contents c.tell.new.writer) c.requires c.body.ensures c.in-Err.ensures c.words_of.ensures) c.tell.ensures.sends

pub returns-in-Ok-clause-fails : goal.returns-in-Ok-clause-fails
returns-in-Ok-clause-fails g c =
    IfErr-weaker c.answer.result _ _
    (λ why. request_breaks (g.A.Adapter.answers c.args.context.now) g.A.Adapter.over c.args.adapter.now c.answer.new.adapter c.in-Ok.request
    c.args.self.now.next why c.args.from c.args.to c.args.self.now.input c.body.result.now (g.W.Write.contents c.args.writer.now)
    (g.W.Write.contents c.answer.new.writer) c.requires c.body.ensures c.in-Ok.ensures) c.answer.ensures.fails

pub returns-in-Err-clause-fails : goal.returns-in-Err-clause-fails
returns-in-Err-clause-fails g c =
    IfErr-weaker c.tell.result _ _
    (λ why. other_breaks (g.A.Adapter.answers c.args.context.now) g.A.Adapter.over c.args.adapter.now c.in-Err.unread c.args.self.now.next why
    c.args.from c.args.to c.args.self.now.input c.body.result.now c.words_of.result.now (g.W.Write.contents c.args.writer.now)
    (g.W.Write.contents c.tell.new.writer) c.requires c.body.ensures c.in-Err.ensures c.words_of.ensures) c.tell.ensures.fails
