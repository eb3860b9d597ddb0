-- The events of one action after another.
use Rattle.std.proofs.Common.{◌≡◌, ◌+◌, ◌<◌, ◌≤◌, ◌∷◌, ◌∙◌, length, drop, refl, sym, ap, arith}
use Rattle.std.proofs.lemmas.List.{drop_all, drop_more}
use Rattle.allowed_events.proofs.ActedActions.{so-far-start, so-far-step, so-far-end}
use Rattle.allowed_events.proofs.among.made_among.Goals as goal

pub loop-one-init : goal.loop-one-init
loop-one-init c = λ S offers. so-far-start S _ _ c.args.actions.now c.in_ok-events.ensures refl

pub loop-one-preserved : goal.loop-one-preserved
loop-one-preserved c = λ S offers.
    let all = c.args.actions.now in
    let i = c.loop-one.one-index in
    let within : i < length all = omega arith in
    let here : drop i all ≡ c.one-item.result ∷ drop (i + 1) all = drop_more all i c.one-item.result within ∙ ap (λ x. x ∷ drop (i + 1) all) (sym c.one-item.is) in
    so-far-step S c.loop-one.events c.add_made.new.events c.one-item.result (drop i all) (drop (i + 1) all) all here
    (c.in_ok-add_made.ensures S offers) (c.loop-one.invariant S offers)

pub returns : goal.returns
returns c = λ S offers.
    let past : length c.args.actions.now ≤ c.loop-one.one-index = omega arith in
    so-far-end S c.loop-one.events (drop c.loop-one.one-index c.args.actions.now) c.args.actions.now (drop_all c.loop-one.one-index c.args.actions.now past)
    (c.loop-one.invariant S offers)
