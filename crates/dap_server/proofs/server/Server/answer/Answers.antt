use Rattle.std.proofs.lemmas.Result.{IfErr-weaker, on_ok_weaker}
use Rattle.dap_server.proofs.Sending.{answer_begun, answer_sent, short_answers, short_begun}
use Rattle.dap_server.proofs.server.Server.answer.Goals as goal

pub returns-in-Ok-clause-answers : goal.returns-in-Ok-clause-answers
returns-in-Ok-clause-answers g c =
    on_ok_weaker c.send.result
    (answer_sent (g.A.Adapter.answers c.args.context.now) c.args.adapter.now c.args.request.now c.answer-answer.result c.answer-answer.new.self c.in-Ok.batch
    (g.W.Write.contents c.args.writer.now) (g.W.Write.contents c.send.new.writer) c.args.self.now.next c.send.new.next c.answer-answer.ensures
    c.in-Ok.ensures) c.send.ensures.sends

pub returns-in-Err-clause-answers : goal.returns-in-Err-clause-answers
returns-in-Err-clause-answers g c =
    on_ok_weaker c.answer_short.result
    (short_answers (g.A.Adapter.answers c.args.context.now) c.args.adapter.now c.args.request.now c.answer-answer.result c.answer-answer.new.self c.gist_of-gist.result
    (g.W.Write.contents c.args.writer.now) (g.W.Write.contents c.answer_short.new.writer) c.args.self.now.next c.answer_short.new.self.next
    c.answer-answer.ensures c.gist_of-gist.ensures) c.answer_short.ensures.sends

pub returns-in-Ok-clause-fails : goal.returns-in-Ok-clause-fails
returns-in-Ok-clause-fails g c =
    IfErr-weaker c.send.result _ _
    (λ why. answer_begun (g.A.Adapter.answers c.args.context.now) c.args.adapter.now c.args.request.now c.answer-answer.result c.answer-answer.new.self
    c.in-Ok.batch why (g.W.Write.contents c.args.writer.now) (g.W.Write.contents c.send.new.writer) c.args.self.now.next c.answer-answer.ensures
    c.in-Ok.ensures) c.send.ensures.begins

pub returns-in-Err-clause-fails : goal.returns-in-Err-clause-fails
returns-in-Err-clause-fails g c =
    IfErr-weaker c.answer_short.result _ _
    (λ why. short_begun (g.A.Adapter.answers c.args.context.now) c.args.adapter.now c.args.request.now c.answer-answer.result c.answer-answer.new.self
    c.gist_of-gist.result why (g.W.Write.contents c.args.writer.now) (g.W.Write.contents c.answer_short.new.writer) c.args.self.now.next
    c.answer-answer.ensures c.gist_of-gist.ensures) c.answer_short.ensures.fails
