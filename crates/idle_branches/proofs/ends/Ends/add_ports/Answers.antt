use Rattle.std.proofs.Common.{◌<◌, ◌≤◌, length, arith}
use Rattle.system.specs.Translation.{branch_of}
use Rattle.idle_branches.proofs.GatherLemmas.{here-of, parts-done, parts-on}
use Rattle.idle_branches.proofs.ends.Ends.add_ports.Goals as goal

pub loop-port-preserved : goal.loop-port-preserved
loop-port-preserved c = λ after more.
    let xs = c.args.ports.now in
    let i = c.loop-port.port-index in
    let less : i < length xs = omega arith in
    c.loop-port.invariant after
    (parts-on branch_of xs i c.port-item.result c.loop-port.self c.add_port.new.self
    (here-of xs i c.port-item.result less c.port-item.is) c.in_ok-add_port.ensures after more)

pub returns : goal.returns
returns c =
    let past : length c.args.ports.now ≤ c.loop-port.port-index = omega arith in
    c.loop-port.invariant c.loop-port.self (parts-done branch_of c.args.ports.now c.loop-port.port-index c.loop-port.self past)
