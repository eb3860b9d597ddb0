use Rattle.std.proofs.Common.{◌≡◌, ◌<◌, ◌∙◌, length, Some, slice_get, sym, ap, arith}
use Rattle.std.proofs.lemmas.Option.{slice_get-get_or}
use Rattle.rings.specs.declared.partner.Partner.{Partner}
use Rattle.rings.proofs.Edging.{ComesBehind, all-waiters, behind-more, stand-more, stand-none}
use Rattle.rings.proofs.tables.waiters_of.Goals as goal

pub loop-number-init : goal.loop-number-init
loop-number-init c = stand-none c.new-waiters.result (ComesBehind c.args.partners.now) c.new-waiters.ensures.sound c.new-waiters.ensures.none

pub loop-number-preserved : goal.loop-number-preserved
loop-number-preserved c =
    let n = c.loop-number.number in
    let within : n < length c.args.partners.now = omega arith in
    let p : Partner = c.index-partners-number.result in
    let there : slice_get c.args.partners.now n ≡ Some p = slice_get-get_or c.args.partners.now n p within ∙ ap (λ (q : Partner). Some q) (sym c.index-partners-number.is) in
    stand-more c.loop-number.waiters c.put_waiter.new.waiters n (ComesBehind c.args.partners.now) c.loop-number.invariant c.in_ok-put_waiter.ensures.sound
    (behind-more c.args.partners.now p n c.loop-number.waiters c.put_waiter.new.waiters there c.in_ok-put_waiter.ensures.put)

pub put_waiter-requires : goal.put_waiter-requires
put_waiter-requires c = c.loop-number.invariant.sound

pub returns : goal.returns
returns c = record {
  sound = c.loop-number.invariant.sound;
  waiters = all-waiters c.args.partners.now c.loop-number.waiters c.loop-number.number c.loop-number-test.false c.loop-number.invariant;
}
