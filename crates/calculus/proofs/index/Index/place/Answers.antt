use Rattle.std.proofs.Common.{List, ap, ◌∙◌}
use Rattle.address.specs.declared.Entry.{Entry}
use Rattle.calculus.specs.internal.Comparing.{place_at}
use Rattle.calculus.proofs.IndexLaws.{looked}
use Rattle.calculus.proofs.index.Index.place.Goals as goal

pub returns : goal.returns
returns c =
    c.copied.ensures ∙ c.get.ensures.value ∙ looked c.entries.result.now c.args.self.now.map.entries
    ∙ ap (λ (a : List Entry). place_at c.args.self.now a) c.entries.ensures
