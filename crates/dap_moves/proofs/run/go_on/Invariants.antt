use Rattle.std.proofs.Common.{◌≡◌}
use Rattle.system_places.specs.SystemBranches.{branch_count}
use Rattle.dap_moves.specs.Led.{Led}
use Rattle.dap_moves.proofs.Running.{Counted}
use Rattle.dap_moves.proofs.run.go_on.Given as goal

abbrev pub invariant-loop-taken : goal.invariant-loop-taken
invariant-loop-taken l = record {
  led : Led l.initial.desk l.desk;
  system : l.desk.machine.checked ≡ l.initial.desk.machine.checked;
  count : l.count ≡ branch_count l.desk.machine.checked;
  runs : Counted l.initial.desk l.desk l.plan l.initial.seen.items l.seen.items l.taken l.turn;
}
