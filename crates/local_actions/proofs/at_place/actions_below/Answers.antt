-- The actions at a place and below it.
use Rattle.std.proofs.Common.{[], ◌∙◌, refl, ap}
use Rattle.process_tree.specs.View.{proc_view, tree_view}
use Rattle.local_actions.specs.Walk.{Walk}
use Rattle.local_actions.proofs.public.Offering.{offered-below}
use Rattle.local_actions.proofs.at_place.actions_below.Goals as goal

pub returns : goal.returns
returns c = λ tidy.
    let led = c.down-site.ensures [] c.new-way.ensures in
    offered-below c.args.store.now c.as_slice.result.now (tree_view c.args.tree.now) (proc_view c.root.result.now) c.args.place.now [] led.0 c.down-site.result
    tidy c.as_slice.ensures c.root.ensures refl led.2 c.in_ok-cursor.cursor c.list_site.new.cursor c.into_found.result
    (c.in_ok-cursor.ensures ∙ ap (λ r. record { place = c.args.place.now; received = r; actions = [] }) (c.in_ok-into_around.ensures led.0 led.1)) c.in_ok-list_site.ensures
    c.into_found.ensures
