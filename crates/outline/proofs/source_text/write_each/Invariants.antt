use Rattle.std.proofs.Common.{◌≡◌, ◌++◌, take}
use Rattle.std.specs.List.{flat_map}
use Rattle.outline.specs.OutlineText.{enumeration_lines}
use Rattle.outline.proofs.source_text.write_each.Given as goal

-- what was passed is written
abbrev pub invariant-loop-enumeration : goal.invariant-loop-enumeration
invariant-loop-enumeration l =
    l.out.items ≡ l.initial.out.items ++ flat_map enumeration_lines (take l.enumeration-index l.enumerations)
