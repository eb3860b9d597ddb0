use Rattle.std.proofs.Common.{◌≡◌, drop}
use Rattle.picture_lanes.specs.Ground.{with_port_uses}
use Rattle.picture_lanes.proofs.ground.with_ports.Given as goal

abbrev pub invariant-loop-index : goal.invariant-loop-index
invariant-loop-index l =
    with_port_uses l.index (drop l.index l.environment) l.uses ≡ with_port_uses 0 l.environment l.initial.uses
