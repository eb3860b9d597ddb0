use Rattle.std.proofs.Common.{ℕ, take}
use Rattle.syntax.specs.Lists.{In}
use Rattle.dependence.specs.LastEvents.{Uses}
use Rattle.dependence.specs.internal.Tabled.{MoreUses}
use Rattle.dependence.proofs.puts.put_reads.Given as goal

-- the uses of those that are passed are put
abbrev pub invariant-loop-variable : goal.invariant-loop-variable
invariant-loop-variable l = record {
  more : MoreUses l.fn.table l.ticket (take l.variable-index l.variables) l.table;
  all : (x : ℕ) → In x (take l.variable-index l.variables) → Uses l.table x l.ticket;
}
