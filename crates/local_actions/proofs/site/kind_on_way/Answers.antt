use Rattle.std.proofs.Common.{◌∙◌, ap}
use Rattle.std.proofs.lemmas.Result.{IfOk-weaker}
use Rattle.local_actions.specs.internal.At.{only_kind}
use Rattle.local_actions.proofs.site.kind_on_way.Goals as goal

pub returns : goal.returns
returns c = λ env kept.
    IfOk-weaker c.kind_of.result _ _ (λ kind h. h ∙ ap (λ r. only_kind c.args.values.now r c.args.only) (c.in_ok-around.ensures env kept)) c.kind_of.ensures
