use Rattle.dap_requests.proofs.Listing.{made_all}
use Rattle.dap_requests.proofs.Placed.{placed_more}
use Rattle.dap_requests.proofs.breakpoints.place_all.Goals as goal

pub loop-one-preserved : goal.loop-one-preserved
loop-one-preserved c = (
  placed_more c.args.own c.args.machine.now.checked.main c.args.program.now.lines c.args.program.now.counting.lines c.args.asked.now
      c.loop-one.one-index _ c.loop-one.making c.place_one.new.making c.loop-one-test.true c.loop-one.invariant.0 c.in_ok-place_one.ensures,
  c.in_ok-place_one.ensures.told c.loop-one.invariant.1,
  c.in_ok-place_one.ensures.moved c.loop-one.invariant.2,
)

pub returns : goal.returns
returns c =
    made_all c.args.own c.args.machine.now.checked.main c.args.program.now.lines c.args.program.now.counting.lines c.loop-one.one-index
    c.args.asked.now c.loop-one.making c.made.result c.loop-one-test.false c.loop-one.invariant.0 c.loop-one.invariant.1 c.loop-one.invariant.2
    c.made.ensures
