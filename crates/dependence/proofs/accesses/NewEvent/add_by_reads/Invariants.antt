use Rattle.std.proofs.Common.{take}
use Rattle.dependence.specs.internal.Found.{AccessesFound, WritesOneRead}
use Rattle.dependence.proofs.accesses.NewEvent.add_by_reads.Given as goal

abbrev pub invariant-loop-variable : goal.invariant-loop-variable
invariant-loop-variable l =
    AccessesFound l.self.list.now.live l.self.event.now (WritesOneRead l.self.list.now.live (take l.variable-index l.variable-items)) l.fn.found.items l.found.items
