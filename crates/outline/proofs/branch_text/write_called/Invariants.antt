use Rattle.std.proofs.Common.{◌≡◌, ◌++◌, take}
use Rattle.std.specs.List.{flat_map}
use Rattle.outline.specs.OutlineText.{called_at}
use Rattle.outline.proofs.branch_text.write_called.Given as goal

-- what was passed is written
abbrev pub invariant-loop-call : goal.invariant-loop-call
invariant-loop-call l =
    l.out.items ≡ l.initial.out.items ++ flat_map (called_at l.place) (take l.call-index l.calls)
