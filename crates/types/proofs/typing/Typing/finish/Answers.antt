use Rattle.std.proofs.Common.{ap, ◌∙◌}
use Rattle.types.specs.internal.Judged.{Judgement}
use Rattle.types.proofs.LeastDescriptions.{typed_from, refused_with}
use Rattle.types.proofs.typing.Typing.finish.Goals as goal

pub returns : goal.returns
returns c =
    let found = c.described.ensures ∙ ap (λ (j : Judgement). j.found) c.self.view_is in
    record {
      typed = λ d is. typed_from d c.described.result (found ∙ is.found);
      fault = λ d is. refused_with d c.described.result (found ∙ is.found);
      spent = λ spent. found ∙ spent;
    }
