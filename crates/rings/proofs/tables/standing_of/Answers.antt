use Rattle.std.proofs.Common.{◌≡◌, ◌<◌, ◌∙◌, length, Some, slice_get, sym, ap, arith}
use Rattle.std.proofs.lemmas.Option.{slice_get-get_or}
use Rattle.local_actions.specs.declared.action.LocalAction.{LocalAction}
use Rattle.rings.proofs.Edging.{StandsThere, all-there, stand-more, stand-none, there-more}
use Rattle.rings.proofs.tables.standing_of.Goals as goal

pub loop-number-init : goal.loop-number-init
loop-number-init c = stand-none c.new-standing.result (StandsThere c.args.actions.now) c.new-standing.ensures.sound c.new-standing.ensures.none

pub loop-number-preserved : goal.loop-number-preserved
loop-number-preserved c =
    let n = c.loop-number.number in
    let within : n < length c.args.actions.now = omega arith in
    let x : LocalAction = c.index-actions-number.result in
    let there : slice_get c.args.actions.now n ≡ Some x = slice_get-get_or c.args.actions.now n x within ∙ ap (λ (z : LocalAction). Some z) (sym c.index-actions-number.is) in
    stand-more c.loop-number.standing c.put.new.self n (StandsThere c.args.actions.now) c.loop-number.invariant c.in_ok-put.ensures.sound
    (there-more c.args.actions.now x n c.entries.result.now c.loop-number.standing c.put.new.self there c.entries.ensures c.in_ok-put.ensures.put)

pub put-requires : goal.put-requires
put-requires c = c.loop-number.invariant.sound

pub returns : goal.returns
returns c = record {
  sound = c.loop-number.invariant.sound;
  standing = all-there c.args.actions.now c.loop-number.standing c.loop-number.number c.loop-number-test.false c.loop-number.invariant;
}
