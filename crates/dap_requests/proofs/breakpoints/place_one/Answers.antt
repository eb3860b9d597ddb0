use Rattle.std.proofs.Common.{ℕ, List, subst}
use Rattle.dap_requests.specs.Sets.{StandsIn}
use Rattle.dap_requests.proofs.Placed.{one_placed}
use Rattle.dap_requests.proofs.breakpoints.place_one.Goals as goal

pub returns : goal.returns
returns c =
    one_placed c.args.own c.args.machine.now.checked.main c.args.program.now.lines c.args.program.now.counting.lines c.args.one.now
    c.place_in-placed.result.line c.args.making.now c.tell_placed.new.making c.add_asked.new.asked c.add_stop.new.stops c.add_stop.result
    (subst
    (λ (stops : List ℕ). StandsIn c.args.own c.args.machine.now.checked.main c.args.program.now.lines stops c.args.one.now.line
    c.place_in-placed.result.line) c.as_slice.ensures.value c.place_in-placed.ensures)
    c.tell_placed.ensures.same c.tell_placed.ensures.told c.tell_placed.ensures.moved c.in_ok-add_asked.ensures c.add_stop.ensures
