use Rattle.std.proofs.Common.{◌∙◌}
use Rattle.types.proofs.NameLemmas.{look_up-shown}
use Rattle.types.proofs.scope.Names.meaning.Goals as goal

pub returns : goal.returns
returns c =
    rw (← c.text.ensures) (c.get.ensures.value ∙ look_up-shown (λ k. k.items) c.text.result.now c.args.self.now.index.entries)
