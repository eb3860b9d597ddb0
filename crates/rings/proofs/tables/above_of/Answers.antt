use Rattle.std.proofs.Common.{◌≡◌, ◌<◌, ◌∙◌, length, Some, slice_get, sym, ap, arith}
use Rattle.std.proofs.lemmas.Option.{slice_get-get_or}
use Rattle.local_actions.specs.declared.action.LocalAction.{LocalAction}
use Rattle.rings.proofs.Edging.{all-above, rows-more, rows-none}
use Rattle.rings.proofs.tables.above_of.Goals as goal

pub loop-number-init : goal.loop-number-init
loop-number-init c = rows-none c.new-above.result c.args.waiters.now c.args.actions.now c.new-above.ensures

pub loop-number-preserved : goal.loop-number-preserved
loop-number-preserved c =
    let n = c.loop-number.number in
    let within : n < length c.args.actions.now = omega arith in
    let x : LocalAction = c.index-actions-number.result in
    let there : slice_get c.args.actions.now n ≡ Some x = slice_get-get_or c.args.actions.now n x within ∙ ap (λ (z : LocalAction). Some z) (sym c.index-actions-number.is) in
    rows-more c.loop-number.above c.add_rows.new.above c.args.waiters.now c.args.actions.now n x c.entries.result.now there c.entries.ensures
    c.loop-number.invariant c.in_ok-add_rows.ensures

pub returns : goal.returns
returns c = all-above c.loop-number.above c.args.waiters.now c.args.actions.now c.loop-number.number c.loop-number-test.false c.loop-number.invariant
