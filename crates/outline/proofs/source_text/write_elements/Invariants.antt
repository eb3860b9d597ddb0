use Rattle.std.proofs.Common.{◌≡◌, ◌++◌, drop}
use Rattle.outline.specs.OutlineText.{element_lines}
use Rattle.outline.proofs.source_text.write_elements.Given as goal

-- with the elements that are left, the lines are those of all
abbrev pub invariant-loop-number : goal.invariant-loop-number
invariant-loop-number l =
    l.out.items ++ element_lines l.number (drop l.number l.elements) ≡ l.initial.out.items ++ element_lines 0 l.elements
