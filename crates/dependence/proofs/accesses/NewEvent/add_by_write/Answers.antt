use Rattle.std.proofs.Common.{sym, ◌∙◌}
use Rattle.std.proofs.lemmas.Result.{IfOk-weaker}
use Rattle.runs.proofs.public.Options.{none-some}
use Rattle.dependence.specs.internal.Found.{UsesWritten}
use Rattle.dependence.proofs.Candidacy.{found-none, write-found}
use Rattle.dependence.proofs.accesses.NewEvent.add_by_write.Goals as goal

pub returns-in_ok-add_writer-in-Some : goal.returns-in_ok-add_writer-in-Some
returns-in_ok-add_writer-in-Some c =
    let new = c.args.self.now in
    IfOk-weaker c.add_readers.result _ _ (λ _ found.
    write-found new.list.now.live new.event.now c.in-Some.variable c.args.found.now.items c.add_writer.new.found.items c.add_readers.new.found.items c.in-Some.is
    c.in_ok-add_writer-in-Some.ensures found) c.add_readers.ensures

pub returns-in-None : goal.returns-in-None
returns-in-None c =
    let new = c.args.self.now in
    found-none new.list.now.live new.event.now (UsesWritten new.list.now.live new.event.now) c.args.found.now.items (λ t e i p. none-some p.0 (sym c.in-None.is ∙ p.1))
