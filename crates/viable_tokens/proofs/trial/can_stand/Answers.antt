use Rattle.std.proofs.Common.{◌≡◌, ◌∷◌, ◌++◌, [], ◌∙◌, ap, drop}
use Rattle.std.proofs.lemmas.List.{drop-append-le, take_rest}
use Rattle.viable_tokens.proofs.Parts.{tells}
use Rattle.viable_tokens.proofs.trial.can_stand.Goals as goal

pub returns-clause-can : goal.returns-clause-can
returns-clause-can c =
    let tokens = c.args.tokens.now.items in
    let all : c.as_slice.result.now ≡ tokens ++ c.sample.result ∷ [] =
    c.as_slice.ensures.value ∙ c.in_ok-push.ensures.items in
    tells _ _ _ _ c.sample.result _ c.sample.ensures c.requires.counts
    (take_rest c.as_slice.result.now c.args.first ∙ ap (drop c.args.first) all
    ∙ drop-append-le c.args.first tokens (c.sample.result ∷ []) c.requires.within)
    c.in_ok-is_begun.ensures
