use Rattle.std.proofs.Common.{subst}
use Rattle.std.proofs.lemmas.Result.{IfErr-weaker, IfOk-weaker}
use Rattle.dap_server.specs.declared.input.Next.{Next}
use Rattle.dap_server.specs.internal.Reading.{IsNext}
use Rattle.dap_server.proofs.Sessions.{goes_on, hears_end, hears_large, large_breaks}
use Rattle.dap_server.proofs.server.Server.serve_message.Goals as goal

pub returns-in-Large-clause-serves : goal.returns-in-Large-clause-serves
returns-in-Large-clause-serves g c =
    IfOk-weaker c.pass_over.result _ _
    (λ more told bytes next. hears_large (g.A.Adapter.answers c.args.context.now) g.A.Adapter.over c.args.adapter.now c.args.self.now.next c.pass_over.new.self.next
    c.args.self.now.input (g.W.Write.contents c.args.writer.now) (g.W.Write.contents c.pass_over.new.writer) c.requires told bytes
    (subst (λ (x : Next). IsNext x c.args.self.now.input bytes) c.in-Large.is next)) c.pass_over.ensures.tells

pub returns-in-Large-clause-ends : goal.returns-in-Large-clause-ends
returns-in-Large-clause-ends g c = IfOk-weaker c.pass_over.result _ _ (λ more. goes_on more) c.pass_over.ensures.on

pub returns-in-Body-clause-ends : goal.returns-in-Body-clause-ends
returns-in-Body-clause-ends g c = IfOk-weaker c.hear.result _ _ (λ more. goes_on more) c.hear.ensures.on

pub returns-in-End-clause-serves : goal.returns-in-End-clause-serves
returns-in-End-clause-serves g c = λ bytes next.
    hears_end (g.A.Adapter.answers c.args.context.now) g.A.Adapter.over c.args.adapter.now c.args.self.now.next c.args.self.now.input
    (g.W.Write.contents c.args.writer.now) bytes (subst (λ (x : Next). IsNext x c.args.self.now.input bytes) c.in-End.is next)

pub returns-in-Large-clause-fails : goal.returns-in-Large-clause-fails
returns-in-Large-clause-fails g c =
    IfErr-weaker c.pass_over.result _ _
    (λ why begun bytes next. large_breaks (g.A.Adapter.answers c.args.context.now) g.A.Adapter.over c.args.adapter.now c.args.self.now.next why
    c.args.self.now.input (g.W.Write.contents c.args.writer.now) (g.W.Write.contents c.pass_over.new.writer) c.requires begun bytes
    (subst (λ (x : Next). IsNext x c.args.self.now.input bytes) c.in-Large.is next)) c.pass_over.ensures.fails
