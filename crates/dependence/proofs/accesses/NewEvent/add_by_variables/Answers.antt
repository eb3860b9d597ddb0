use Rattle.std.proofs.lemmas.Result.{IfOk-weaker}
use Rattle.dependence.specs.internal.Found.{WritesOneRead, UsesWritten}
use Rattle.dependence.proofs.Candidacy.{found-then}
use Rattle.dependence.proofs.accesses.NewEvent.add_by_variables.Goals as goal

pub returns : goal.returns
returns c =
    let new = c.args.self.now in
    IfOk-weaker c.add_by_write.result _ _ (λ _ found.
    found-then new.list.now.live new.event.now (WritesOneRead new.list.now.live new.event.now.read) (UsesWritten new.list.now.live new.event.now) c.args.found.now.items
    c.add_by_reads.new.found.items c.add_by_write.new.found.items c.in_ok-add_by_reads.ensures found) c.add_by_write.ensures
