use Rattle.std.proofs.Common.{rules, cond, true, false, ap, ◌∙◌}
use Rattle.std.proofs.lemmas.Fn.{filter_same}
use Rattle.local_actions.specs.declared.action.LocalAction.{LocalAction}
use Rattle.waiting.specs.internal.Among.{left_by}
use Rattle.waiting.specs.internal.Held.{is_there}
use Rattle.waiting.proofs.HeldPlaces.{left-filter}
use Rattle.waiting.proofs.actions.left_over.Goals as goal

pub returns : goal.returns
returns c =
    c.from_vec.ensures
    ∙ filter_same _ (λ (x : LocalAction). cond (is_there c.args.places.now x.place) false true) _ (λ x b f' k. search rules) _ _ c.retain.ensures.filtered
    ∙ left-filter (is_there c.args.places.now) c.into_vec-actions.result.items
    ∙ ap (left_by (is_there c.args.places.now)) c.into_vec-actions.ensures
