use Rattle.std.proofs.Common.{◌≡◌, ◌∙◌, ◌-◌, ◌<◌, ◌≤◌, ◌∷◌, [], ◌++◌, ℕ, List, length, get_or, ap, arith, subst}
use Rattle.std.specs.Prelude.{slice_get}
use Rattle.std.specs.Option.{option_copied}
use Rattle.local_actions.specs.declared.action.LocalAction.{LocalAction}
use Rattle.rings.specs.declared.partner.Partner.{Partner}
use Rattle.picture_data.specs.declared.places.Place.{Place as Shown}
use Rattle.picture_data.specs.internal.SpotsSoFar.{deep_in, seen_in}
use Rattle.picture_data.proofs.SpotLaws.{spots-all, spots-next}
use Rattle.picture_data.proofs.places.waiting_places.Goals as goal

pub loop-index-preserved : goal.loop-index-preserved
loop-index-preserved c =
    let less : c.loop-index.index < length c.args.waiting.now.actions =
    subst (λ (xs : List LocalAction). c.loop-index.index < length xs) c.as_slice-action-items.ensures c.loop-index-test.true in
    let here : c.action-item.result ≡ get_or c.args.waiting.now.actions c.loop-index.index c.action-item.result =
    subst (λ (xs : List LocalAction). c.action-item.result ≡ get_or xs c.loop-index.index c.action-item.result) c.as_slice-action-items.ensures c.action-item.is in
    spots-next (seen_in c.args.machine.now c.args.now.now) (deep_in c.args.now.now) c.args.waiting.now.partners.items c.args.waiting.now.actions c.loop-index.index
    c.action-item.result (option_copied c.partner_at-partner.result) c.loop-index.places.items c.add_action.new.places.items
    c.loop-index.place_of_action.items c.push.new.self.items less here
    (c.partner_at-partner.ensures ∙ ap (λ (ps : List Partner). slice_get ps c.loop-index.index) c.as_slice-partners.ensures.value)
    c.loop-index.invariant c.in_ok-add_action.ensures.spots c.in_ok-add_action.ensures.since c.in_ok-add_action.ensures.kept
    c.in_ok-add_action.ensures.last
    (c.in_ok-push.ensures.items
    ∙ ap (λ (k : ℕ). c.loop-index.place_of_action.items ++ k ∷ [])
    (c.last_index.ensures ∙ ap (λ (ps : List Shown). length ps - 1) c.as_slice.ensures.value))

pub returns : goal.returns
returns c =
    let size : length c.as_slice-action-items.result.now ≡ length c.args.waiting.now.actions =
    ap (λ (xs : List LocalAction). length xs) c.as_slice-action-items.ensures in
    let past = c.loop-index-test.false in
    let whole : length c.args.waiting.now.actions ≤ c.loop-index.index = omega arith in
    spots-all (seen_in c.args.machine.now c.args.now.now) (deep_in c.args.now.now) c.args.waiting.now.partners.items c.args.waiting.now.actions c.loop-index.index
    c.loop-index.places.items c.loop-index.place_of_action.items whole c.loop-index.invariant
