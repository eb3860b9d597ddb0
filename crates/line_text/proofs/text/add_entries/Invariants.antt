use Rattle.std.proofs.Common.{◌≡◌, ◌++◌, take}
use Rattle.std.specs.List.{flat_map}
use Rattle.address.specs.Text.{entry_text}
use Rattle.line_text.proofs.text.add_entries.Given as goal

-- the entries passed are written
abbrev pub invariant-loop-entry : goal.invariant-loop-entry
invariant-loop-entry l =
    l.out.items ≡ l.initial.out.items ++ flat_map entry_text (take l.entry-index l.entries)
