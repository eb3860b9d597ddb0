use Rattle.std.proofs.lemmas.Result.{IfErr-weaker, on_ok_weaker}
use Rattle.dap_server.specs.internal.Reading.{held}
use Rattle.dap_server.proofs.Sessions.{ends_well, on_ok_and, serves_all, stops_all, stops_unread}
use Rattle.dap_server.proofs.server.serve.Goals as goal

pub returns-in-Ok-clause-serves : goal.returns-in-Ok-clause-serves
returns-in-Ok-clause-serves g c =
    on_ok_and c.serve_all.result
    (serves_all (g.A.Adapter.answers c.args.context.now) g.A.Adapter.over c.args.adapter.now c.serve_all.new.adapter c.in-Ok.server.next c.serve_all.new.self.next
    (held c.in-Ok.server.input) (held c.serve_all.new.self.input) (g.R.Read.remaining c.args.reader.now)
    (g.R.Read.remaining c.serve_all.new.reader) (g.W.Write.contents c.args.writer.now) (g.W.Write.contents c.serve_all.new.writer)
    c.in-Ok.ensures.next c.in-Ok.ensures.held) c.serve_all.ensures.ends c.serve_all.ensures.serves

pub returns-in-Ok-clause-ends : goal.returns-in-Ok-clause-ends
returns-in-Ok-clause-ends g c =
    on_ok_weaker c.serve_all.result
    (ends_well (g.R.Read.remaining c.serve_all.new.reader) (held c.serve_all.new.self.input)) c.serve_all.ensures.ends

pub returns-in-Ok-clause-fails : goal.returns-in-Ok-clause-fails
returns-in-Ok-clause-fails g c =
    IfErr-weaker c.serve_all.result _ _
    (λ why. stops_all (g.A.Adapter.answers c.args.context.now) g.A.Adapter.over c.args.adapter.now c.serve_all.new.adapter c.in-Ok.server.next why
    (held c.in-Ok.server.input) (g.R.Read.remaining c.args.reader.now) (g.R.Read.remaining c.serve_all.new.reader)
    (g.W.Write.contents c.args.writer.now) (g.W.Write.contents c.serve_all.new.writer) c.in-Ok.ensures.next c.in-Ok.ensures.held)
    c.serve_all.ensures.fails

pub returns-in-Err-clause-fails : goal.returns-in-Err-clause-fails
returns-in-Err-clause-fails g c =
    stops_unread (g.A.Adapter.answers c.args.context.now) g.A.Adapter.over c.args.adapter.now 1 _ (g.R.Read.remaining c.args.reader.now)
    (g.W.Write.contents c.args.writer.now)
