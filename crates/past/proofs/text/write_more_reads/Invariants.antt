use Rattle.std.proofs.Common.{◌≡◌, ◌++◌, take}
use Rattle.std.specs.List.{flat_map}
use Rattle.past.specs.PastText.{more_read_text}
use Rattle.past.proofs.text.write_more_reads.Given as goal

-- the variables passed are written
abbrev pub invariant-loop-variable : goal.invariant-loop-variable
invariant-loop-variable l =
    l.out.items ≡ l.initial.out.items ++ flat_map (more_read_text l.system l.values) (take l.variable-index l.variables)
