use Rattle.std.proofs.Common.{◌≡◌, ◌<◌, ◌∙◌, length, Some, slice_get, sym, ap, arith}
use Rattle.std.proofs.lemmas.Option.{slice_get-get_or}
use Rattle.local_actions.specs.declared.action.LocalAction.{LocalAction}
use Rattle.allowed_events.proofs.ByChannel.{has-all, has-more, has-none}
use Rattle.allowed_events.proofs.among.partners_of.Goals as goal

pub loop-number-init : goal.loop-number-init
loop-number-init c = has-none c.new-partners.result c.args.actions.now c.new-partners.ensures

pub loop-number-preserved : goal.loop-number-preserved
loop-number-preserved c =
    let n = c.loop-number.number in
    let within : n < length c.args.actions.now = omega arith in
    let x : LocalAction = c.index-actions-number.result in
    let there : slice_get c.args.actions.now n ≡ Some x = slice_get-get_or c.args.actions.now n x within ∙ ap (λ (z : LocalAction). Some z) (sym c.index-actions-number.is) in
    has-more c.loop-number.partners c.put_on.new.partners c.args.actions.now n x c.partner_on.result c.loop-number.invariant there c.partner_on.ensures c.in_ok-put_on.ensures

pub returns : goal.returns
returns c = has-all c.loop-number.partners c.args.actions.now c.loop-number.number c.loop-number.invariant c.loop-number-test.false
