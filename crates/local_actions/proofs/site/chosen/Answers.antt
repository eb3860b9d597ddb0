use Rattle.std.proofs.Common.{[], ◌∙◌, sym, ap}
use Rattle.std.proofs.lemmas.Result.{IfOk-weaker}
use Rattle.local_actions.specs.internal.At.{at_site, chosen}
use Rattle.local_actions.proofs.site.chosen.Goals as goal

pub returns-in-Fresh-clause-found : goal.returns-in-Fresh-clause-found
returns-in-Fresh-clause-found c = λ env kept.
    IfOk-weaker c.chosen_once-in-Fresh.result _ _
    (λ found h. h ∙ sym (c.fresh_once.ensures c.args.values.now env c.args.arm) ∙ sym (ap (λ y. chosen [] c.args.arm (at_site c.args.values.now env y)) c.in-Fresh.is))
    (c.chosen_once-in-Fresh.ensures.found env kept)
