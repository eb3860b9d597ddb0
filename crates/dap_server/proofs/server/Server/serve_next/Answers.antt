use Rattle.std.proofs.Common.{◌++◌}
use Rattle.std.proofs.lemmas.Result.{IfErr-weaker, IfOk-weaker}
use Rattle.dap_server.specs.internal.Reading.{held}
use Rattle.dap_server.proofs.Sessions.{breaks_next, breaks_unread, ends_empty, serves_next}
use Rattle.dap_server.proofs.server.Server.serve_next.Goals as goal

pub returns-in-Ok-clause-serves : goal.returns-in-Ok-clause-serves
returns-in-Ok-clause-serves g c =
    IfOk-weaker c.serve_message.result _ _
    (λ more. serves_next (g.A.Adapter.answers c.args.context.now) g.A.Adapter.over c.args.adapter.now c.serve_message.new.adapter c.args.self.now.next
    c.serve_message.new.self.next (held c.args.self.now.input) c.in-Ok.next c.next.new.self c.serve_message.new.self.input
    (g.R.Read.remaining c.args.reader.now) (g.R.Read.remaining c.next.new.reader) (g.W.Write.contents c.args.writer.now)
    (g.W.Write.contents c.serve_message.new.writer) c.in-Ok.ensures.next c.serve_message.ensures.input) c.serve_message.ensures.serves

pub returns-in-Ok-clause-ends : goal.returns-in-Ok-clause-ends
returns-in-Ok-clause-ends g c =
    IfOk-weaker c.serve_message.result _ _
    (λ more ends off. ends_empty c.in-Ok.next c.next.new.self c.serve_message.new.self.input
    (held c.args.self.now.input ++ c.in-Ok.ensures.next.0) (g.R.Read.remaining c.next.new.reader) c.in-Ok.ensures.next.2
    c.serve_message.ensures.input c.in-Ok.ensures.ends (ends off)) c.serve_message.ensures.ends

pub returns-in-Ok-clause-fails : goal.returns-in-Ok-clause-fails
returns-in-Ok-clause-fails g c =
    IfErr-weaker c.serve_message.result _ _
    (λ why. breaks_next (g.A.Adapter.answers c.args.context.now) g.A.Adapter.over c.args.adapter.now c.serve_message.new.adapter c.args.self.now.next
    why (held c.args.self.now.input) c.in-Ok.next c.next.new.self (g.R.Read.remaining c.args.reader.now) (g.R.Read.remaining c.next.new.reader)
    (g.W.Write.contents c.args.writer.now) (g.W.Write.contents c.serve_message.new.writer) c.in-Ok.ensures.next) c.serve_message.ensures.fails

pub returns-in-Err-clause-fails : goal.returns-in-Err-clause-fails
returns-in-Err-clause-fails g c =
    breaks_unread (g.A.Adapter.answers c.args.context.now) g.A.Adapter.over c.args.adapter.now c.args.self.now.next c.in-Err.fault
    (held c.args.self.now.input) (g.R.Read.remaining c.args.reader.now) (g.R.Read.remaining c.next.new.reader)
    (g.W.Write.contents c.args.writer.now) c.next.ensures.some
