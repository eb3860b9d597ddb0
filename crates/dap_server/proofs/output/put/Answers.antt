use Rattle.std.proofs.lemmas.Result.{IfErr-weaker}
use Rattle.dap_server.proofs.Sending.{appends_kept, begun_whole}
use Rattle.dap_server.proofs.output.put.Goals as goal

pub returns-in-Ok-clause-begins : goal.returns-in-Ok-clause-begins
returns-in-Ok-clause-begins g c =
    IfErr-weaker c.flush.result _ _
    (λ why failed. begun_whole why c.args.bytes.now (g.W.Write.contents c.args.writer.now) (g.W.Write.contents c.flush.new.writer) failed
    (appends_kept (g.W.Write.contents c.args.writer.now) (g.W.Write.contents c.put_all.new.writer) (g.W.Write.contents c.flush.new.writer)
    c.args.bytes.now c.in-Ok.ensures.sends c.flush.ensures.keeps)) c.flush.ensures.fails
