use Rattle.std.proofs.Common.{ℕ, List, sym, refl, subst}
use Rattle.shell_desk.specs.declared.word.Word.{Word}
use Rattle.shell.specs.internal.Parts.{AsksNoDeedAtAll, Begun}
use Rattle.shell.proofs.LeavesLemmas.{loads-leave}
use Rattle.shell.proofs.session.Session.load.Goals as goal

pub returns-in-Ok : goal.returns-in-Ok
returns-in-Ok g c =
    loads-leave AsksNoDeedAtAll (Begun Word.Load c.args.rest.now) (g.H.Host.files c.args.host.now)
    c.args.setting.now.texts.source.now c.args.setting.now.texts.stimulus.now c.args.self.now.bench c.load_trace.new.self.bench
    c.in-Some.name.now c.as_slice.result.now c.load_trace.result.outcome (refl, sym c.in-Some.ensures)
    (subst (λ (t : List ℕ). (g.H.Host.files c.args.host.now).holds c.in-Some.name.now t) (sym c.as_slice.ensures.value) c.in-Ok.ensures)
    c.load_trace.ensures
