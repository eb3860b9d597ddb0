use Rattle.std.proofs.Common.{◌≡◌, ◌++◌, take}
use Rattle.std.specs.List.{flat_map}
use Rattle.outline.specs.OutlineText.{call_line}
use Rattle.outline.proofs.source_text.write_each_call.Given as goal

-- what was passed is written
abbrev pub invariant-loop-call : goal.invariant-loop-call
invariant-loop-call l =
    l.out.items ≡ l.initial.out.items ++ flat_map call_line (take l.call-index l.calls)
