use Rattle.std.proofs.Common.{◌≡◌, drop, map}
use Rattle.json_text.specs.Values.{with_values}
use Rattle.picture_text.specs.DataText.{variable_text}
use Rattle.picture_text.proofs.ground.add_variables.Given as goal

-- with those that are left, all are there
abbrev pub invariant-loop-variable : goal.invariant-loop-variable
invariant-loop-variable l =
    with_values l.json (map variable_text (drop l.variable-index l.variable-items)) ≡ with_values l.initial.json (map variable_text l.variable-items)
