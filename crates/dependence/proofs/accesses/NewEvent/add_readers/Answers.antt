use Rattle.std.proofs.lemmas.Result.{IfOk-weaker}
use Rattle.syntax.specs.Lists.{In}
use Rattle.dependence.specs.internal.Found.{ReaderSince}
use Rattle.dependence.proofs.Candidacy.{found-some, reader-found, reader-direct}
use Rattle.dependence.proofs.accesses.NewEvent.add_readers.Goals as goal

pub add_accesses-requires-clause-direct : goal.add_accesses-requires-clause-direct
add_accesses-requires-clause-direct c = λ t i.
    reader-direct c.args.self.now c.requires.new c.args.variable c.last_write-from.result c.between-readers.result.now c.requires.writes c.between-readers.ensures t i

pub returns : goal.returns
returns c =
    let new = c.args.self.now in
    IfOk-weaker c.add_accesses.result _ _ (λ _ found.
    found-some new.list.now.live new.event.now (λ t. In t c.between-readers.result.now) (ReaderSince new.list.now.live c.args.variable) c.args.found.now.items c.add_accesses.new.found.items
    (λ t e i since.
    reader-found new c.requires.new c.args.variable c.last_write-from.result c.between-readers.result.now c.last_write-from.ensures.last c.between-readers.ensures t since) found)
    c.add_accesses.ensures
