use Rattle.std.proofs.Common.{◌≡◌, [], drop}
use Rattle.elaborate.specs.internal.Making.{ports_onto}
use Rattle.elaborate.proofs.made.Made.ports.Given as goal

abbrev pub invariant-loop-port : goal.invariant-loop-port
invariant-loop-port l = ports_onto l.numbers l.self (drop l.port-index l.ports) ≡ ports_onto [] l.initial.self l.ports
