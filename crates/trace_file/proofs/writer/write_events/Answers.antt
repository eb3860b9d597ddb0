use Rattle.std.proofs.Common.{ℕ, List, sym, subst}
use Rattle.trace_file.proofs.public.Stands.{stand-within}
use Rattle.trace_file.specs.Canonical.{StandAt}
use Rattle.trace_file.proofs.SaveLemmas.{written-more, written-whole, lines-whole}
use Rattle.trace_file.proofs.writer.write_events.Goals as goal

pub event_at-requires : goal.event_at-requires
event_at-requires c =
    let order = c.in_ok-order.ensures in
    stand-within c.args.live.now.live c.as_slice-index-items.result.now order.0 c.loop-index.index-index 0
    (subst (λ (p : List ℕ). StandAt c.args.live.now.live p order.0) (sym c.as_slice-index-items.ensures.value) order.2) c.loop-index-test.true

pub loop-index-preserved : goal.loop-index-preserved
loop-index-preserved c =
    written-more c.loop-index.out.items c.add_line.new.out.items c.args.live.now.live c.as_slice-index-items.result.now c.loop-index.index-index 0
    c.event_at.ensures.0 c.event_at.result.now c.loop-index.invariant c.loop-index-test.true c.event_at.ensures.1
    c.in_ok-add_line.ensures.text
    (c.in_ok-add_line.ensures.place, c.in_ok-add_line.ensures.arm)

pub returns-clause-text : goal.returns-clause-text
returns-clause-text c =
    let order = c.in_ok-order.ensures in
    written-whole c.loop-index.out.items c.args.live.now.live c.as_slice-index-items.result.now c.loop-index.index-index c.loop-index.invariant
    c.loop-index-test.false
    (order.0, order.1, subst (λ (p : List ℕ). StandAt c.args.live.now.live p order.0) (sym c.as_slice-index-items.ensures.value) order.2)

pub returns-clause-lines : goal.returns-clause-lines
returns-clause-lines c =
    let order = c.in_ok-order.ensures in
    lines-whole c.loop-index.out.items c.args.live.now.live c.as_slice-index-items.result.now c.loop-index.index-index c.loop-index.invariant
    c.loop-index-test.false
    (order.0, order.1, subst (λ (p : List ℕ). StandAt c.args.live.now.live p order.0) (sym c.as_slice-index-items.ensures.value) order.2) c.requires
