use Rattle.std.proofs.Common.{◌≡◌, drop, map}
use Rattle.json_text.specs.Values.{with_values}
use Rattle.std.specs.Fmt.{decimal}
use Rattle.picture_text.proofs.steps.add_reads.Given as goal

-- with those that are left, all are there
abbrev pub invariant-loop-variable : goal.invariant-loop-variable
invariant-loop-variable l =
    with_values l.json (map decimal (drop l.variable-index l.variable-items)) ≡ with_values l.initial.json (map decimal l.variable-items)
