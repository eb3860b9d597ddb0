use Rattle.std.proofs.Common.{◌≡◌, ◌++◌, take}
use Rattle.std.specs.List.{flat_map}
use Rattle.outline.specs.OutlineText.{branch_lines}
use Rattle.outline.proofs.branch_text.write_each.Given as goal

-- what was passed is written
abbrev pub invariant-loop-branch : goal.invariant-loop-branch
invariant-loop-branch l =
    l.out.items ≡ l.initial.out.items ++ flat_map (branch_lines l.channels l.calls) (take l.branch-index l.branches)
