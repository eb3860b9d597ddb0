use Rattle.std.proofs.Common.{◌≡◌, ◌++◌, take}
use Rattle.std.specs.List.{flat_map}
use Rattle.outline.specs.OutlineText.{variable_line}
use Rattle.outline.proofs.variable_text.write_each.Given as goal

-- what was passed is written
abbrev pub invariant-loop-variable : goal.invariant-loop-variable
invariant-loop-variable l =
    l.out.items ≡ l.initial.out.items ++ flat_map (variable_line l.lines) (take l.variable-index l.variables)
