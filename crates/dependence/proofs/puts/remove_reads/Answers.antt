use Rattle.std.proofs.Common.{ℕ, List, subst}
use Rattle.dependence.specs.internal.Tabled.{FewerUses}
use Rattle.dependence.proofs.public.ListPlaces.{take-all}
use Rattle.dependence.proofs.public.Tabling.{fewer-none, fewer-next, read-next}
use Rattle.dependence.proofs.puts.remove_reads.Goals as goal

pub loop-variable-init : goal.loop-variable-init
loop-variable-init c = fewer-none c.args.table.now c.args.ticket

pub loop-variable-preserved : goal.loop-variable-preserved
loop-variable-preserved c =
    fewer-next c.args.table.now c.loop-variable.table c.remove.new.self c.args.ticket _ _ _
    (read-next c.args.variables.now c.loop-variable.variable-index c.loop-variable-test.true) c.remove.ensures c.loop-variable.invariant

pub returns : goal.returns
returns c =
    subst (λ (xs : List ℕ). FewerUses c.args.table.now c.args.ticket xs c.loop-variable.table)
    (take-all c.args.variables.now c.loop-variable.variable-index c.loop-variable-test.false) c.loop-variable.invariant
