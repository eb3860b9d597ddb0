use Rattle.std.proofs.Common.{sym, ◌∙◌}
use Rattle.system.proofs.Insertions.{inserted_all-guard}
use Rattle.system.proofs.decision.variables_of_all.Goals as goal

-- the variables of this guard are among those of the guards that were left
pub loop-guard-preserved : goal.loop-guard-preserved
loop-guard-preserved c =
    sym (inserted_all-guard c.args.guards.now c.loop-guard.guard-index c.guard-item.result c.loop-guard.found c.add_variables.new.found
    c.loop-guard-test.true c.guard-item.is c.in_ok-add_variables.ensures)
    ∙ c.loop-guard.invariant
