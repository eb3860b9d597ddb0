use Rattle.std.proofs.Common.{◌≡◌, None, sym}
use Rattle.dap_moves.specs.internal.Turning.{branch_for}
use Rattle.dap_moves.proofs.Nearest.{all-more, all-none, first_found, none_found}
use Rattle.dap_moves.proofs.run.first_that_goes.Goals as goal

pub loop-event-init : goal.loop-event-init
loop-event-init c = all-none (λ f. branch_for c.args.system.now c.args.only f ≡ None) c.args.events.now

pub loop-event-preserved : goal.loop-event-preserved
loop-event-preserved c =
    all-more (λ f. branch_for c.args.system.now c.args.only f ≡ None) c.args.events.now c.loop-event.event-index c.event-item.result
    c.loop-event-test.true c.event-item.is c.loop-event.invariant (sym c.in_default.ensures)

pub returns-in-Some : goal.returns-in-Some
returns-in-Some c =
    first_found c.args.system.now c.args.only c.args.events.now c.loop-event.event-index c.in-Some.branch c.event-item.result
    c.loop-event-test.true c.event-item.is c.loop-event.invariant (sym c.in-Some.ensures)

pub returns : goal.returns
returns c =
    none_found c.args.system.now c.args.only c.args.events.now c.loop-event.event-index c.loop-event-test.false c.loop-event.invariant
