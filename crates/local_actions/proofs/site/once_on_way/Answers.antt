use Rattle.std.proofs.Common.{◌∙◌, ap}
use Rattle.std.proofs.lemmas.Result.{IfOk-weaker}
use Rattle.process_tree.specs.View.{once_view}
use Rattle.process_tree.specs.internal.Received.{puts_once}
use Rattle.local_actions.specs.internal.At.{once_kind}
use Rattle.local_actions.proofs.site.once_on_way.Goals as goal

pub returns : goal.returns
returns c = λ env kept.
    IfOk-weaker c.kind_of_once.result _ _ (λ kind h. h ∙ ap (λ r. once_kind c.args.values.now (puts_once r (once_view c.args.once.now))) (c.in_ok-around.ensures env kept)) c.kind_of_once.ensures
