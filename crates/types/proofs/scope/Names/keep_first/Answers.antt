use Rattle.types.proofs.NameLemmas.{shown-take}
use Rattle.types.proofs.scope.Names.keep_first.Goals as goal

pub returns : goal.returns
returns c = rw c.truncate.ensures.entries (shown-take (λ k. k.items) c.args.count c.args.self.now.index.entries)
