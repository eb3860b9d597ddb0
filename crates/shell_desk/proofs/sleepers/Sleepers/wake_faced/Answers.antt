use Rattle.std.proofs.Common.{List, ℕ, ◌<◌, ◌≤◌, length, arith, subst}
use Rattle.shell_desk.specs.internal.Sleeping.{SleepButThese}
use Rattle.shell_desk.proofs.SleepLemmas.{faced-begins, faced-ends, faced-more}
use Rattle.shell_desk.proofs.sleepers.Sleepers.wake_faced.Goals as goal

pub loop-offer-init : goal.loop-offer-init
loop-offer-init c = faced-begins c.args.ends.now c.args.offers.now c.args.self.now.asleep

pub loop-offer-preserved : goal.loop-offer-preserved
loop-offer-preserved c =
    let less : c.loop-offer.offer-index < length c.args.offers.now = omega arith in
    faced-more c.args.ends.now c.args.offers.now c.loop-offer.offer-index c.offer-item.result c.args.self.now.asleep
    c.loop-offer.self.asleep c.wake_each.new.self.asleep less c.offer-item.is c.loop-offer.invariant
    (subst (λ (woken : List ℕ). SleepButThese woken c.loop-offer.self.asleep c.wake_each.new.self.asleep)
    c.faced_by.ensures c.wake_each.ensures)

pub returns : goal.returns
returns c =
    let past : length c.args.offers.now ≤ c.loop-offer.offer-index = omega arith in
    faced-ends c.args.ends.now c.args.offers.now c.loop-offer.offer-index c.args.self.now.asleep
    c.loop-offer.self.asleep past c.loop-offer.invariant
