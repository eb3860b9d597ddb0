-- The events of one action after another.
use Rattle.std.proofs.Common.{◌≡◌, ◌+◌, ◌<◌, ◌≤◌, ◌∷◌, ◌∙◌, length, drop, refl, sym, ap, arith}
use Rattle.std.proofs.lemmas.List.{drop_all, drop_more}
use Rattle.local_actions.specs.View.{state_of}
use Rattle.allowed_events.proofs.ActedActions.{so-far-start, so-far-step, so-far-end}
use Rattle.allowed_events.proofs.acting_events.acted_by.Goals as goal

pub loop-one-init : goal.loop-one-init
loop-one-init c = λ code table stems tidy. so-far-start (state_of c.args.tree.now c.args.store.now) _ _ c.args.acting.now c.in_ok-events.ensures refl

pub loop-one-preserved : goal.loop-one-preserved
loop-one-preserved c = λ code table stems tidy.
    let all = c.args.acting.now in
    let i = c.loop-one.one-index in
    let within : i < length all = omega arith in
    let here : drop i all ≡ c.one-item.result ∷ drop (i + 1) all = drop_more all i c.one-item.result within ∙ ap (λ x. x ∷ drop (i + 1) all) (sym c.one-item.is) in
    so-far-step (state_of c.args.tree.now c.args.store.now) c.loop-one.events c.add_acted.new.events c.one-item.result (drop i all) (drop (i + 1) all) all here
    (c.in_ok-add_acted.ensures code table stems tidy) (c.loop-one.invariant code table stems tidy)

pub returns : goal.returns
returns c = λ code table stems tidy.
    let past : length c.args.acting.now ≤ c.loop-one.one-index = omega arith in
    so-far-end (state_of c.args.tree.now c.args.store.now) c.loop-one.events (drop c.loop-one.one-index c.args.acting.now) c.args.acting.now (drop_all c.loop-one.one-index c.args.acting.now past)
    (c.loop-one.invariant code table stems tidy)
