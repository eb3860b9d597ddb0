-- The action at a place.
use Rattle.std.proofs.Common.{[], refl, subst}
use Rattle.std.proofs.lemmas.Result.{IfOk-weaker, on_err_weaker}
use Rattle.runs.specs.Moves.{Place}
use Rattle.process_tree.specs.View.{proc_view, tree_view}
use Rattle.local_actions.specs.internal.At.{Leads}
use Rattle.local_actions.proofs.public.Offering.{offered-there, offered-some}
use Rattle.local_actions.proofs.at_place.action_at.Goals as goal

pub returns-clause-found : goal.returns-clause-found
returns-clause-found c = λ tidy.
    let led = c.down-site.ensures [] c.new-way.ensures in
    IfOk-weaker c.chosen.result _ _
    (λ found is. offered-there c.args.store.now c.as_slice.result.now (tree_view c.args.tree.now) (proc_view c.root.result.now) c.args.place.now [] led.0 c.down-site.result
    tidy c.as_slice.ensures c.root.ensures refl
    (subst (λ (a : Place). Leads (proc_view c.root.result.now) a [] led.0 c.down-site.result) c.entries.ensures led.2) c.args.arm found is)
    (c.chosen.ensures.found led.0 led.1)

pub returns-clause-offered : goal.returns-clause-offered
returns-clause-offered c = λ tidy.
    let led = c.down-site.ensures [] c.new-way.ensures in
    on_err_weaker c.chosen.result
    (λ some. offered-some c.args.store.now c.as_slice.result.now (tree_view c.args.tree.now) (proc_view c.root.result.now) c.args.place.now [] led.0 c.down-site.result
    tidy c.as_slice.ensures c.root.ensures refl
    (subst (λ (a : Place). Leads (proc_view c.root.result.now) a [] led.0 c.down-site.result) c.entries.ensures led.2) c.args.arm some)
    (c.chosen.ensures.offered led.0)
