use Rattle.std.proofs.Common.{◌≡◌, drop, map}
use Rattle.json_text.specs.Values.{with_values}
use Rattle.picture_text.specs.DataText.{instance_text}
use Rattle.picture_text.proofs.ground.add_instances.Given as goal

-- with those that are left, all are there
abbrev pub invariant-loop-instance : goal.invariant-loop-instance
invariant-loop-instance l =
    with_values l.json (map instance_text (drop l.instance-index l.instances)) ≡ with_values l.initial.json (map instance_text l.instances)
