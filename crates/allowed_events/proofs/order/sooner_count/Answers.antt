use Rattle.std.proofs.Common.{◌≡◌, ◌-◌, ◌<◌, suc, length, arith}
use Rattle.allowed_events.proofs.Placed.{count-here, count-none, past-more}
use Rattle.allowed_events.proofs.order.sooner_count.Goals as goal

pub returns-then-is_sooner-clause-counted : goal.returns-then-is_sooner-clause-counted
returns-then-is_sooner-clause-counted c = λ order.
    let next : suc (c.loop-index.index - 1) ≡ c.loop-index.index = omega arith in
    let less : c.loop-index.index - 1 < length c.args.sorted.now = omega arith in
    count-here c.args.event.now c.index-sorted-index.result c.args.sorted.now (c.loop-index.index - 1) c.loop-index.index c.is_sooner.result order next less
    c.index-sorted-index.is c.is_sooner.ensures c.if-is_sooner.true c.loop-index.invariant.past

pub loop-index-preserved : goal.loop-index-preserved
loop-index-preserved c =
    let next : suc (c.loop-index.index - 1) ≡ c.loop-index.index = omega arith in
    let less : c.loop-index.index - 1 < length c.args.sorted.now = omega arith in
    record {
      within = omega arith;
      past =
          past-more c.args.event.now c.index-sorted-index.result c.args.sorted.now (c.loop-index.index - 1) c.loop-index.index c.is_sooner.result next less
          c.index-sorted-index.is c.is_sooner.ensures c.if-is_sooner.false c.loop-index.invariant.past;
    }

pub returns-clause-counted : goal.returns-clause-counted
returns-clause-counted c = λ order. count-none c.args.event.now c.args.sorted.now c.loop-index.index c.loop-index-test.false c.loop-index.invariant.past
