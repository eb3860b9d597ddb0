use Rattle.std.proofs.Common.{◌≡◌, drop, map}
use Rattle.json_text.specs.Values.{with_values}
use Rattle.std.specs.Fmt.{decimal}
use Rattle.picture_text.proofs.steps.add_indexes.Given as goal

-- with those that are left, all are there
abbrev pub invariant-loop-index : goal.invariant-loop-index
invariant-loop-index l =
    with_values l.json (map decimal (drop l.index-index l.indexes)) ≡ with_values l.initial.json (map decimal l.indexes)
