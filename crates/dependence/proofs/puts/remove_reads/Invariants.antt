use Rattle.std.proofs.Common.{take}
use Rattle.dependence.specs.internal.Tabled.{FewerUses}
use Rattle.dependence.proofs.puts.remove_reads.Given as goal

-- the uses of those that are passed are taken out
abbrev pub invariant-loop-variable : goal.invariant-loop-variable
invariant-loop-variable l = FewerUses l.fn.table l.ticket (take l.variable-index l.variables) l.table
