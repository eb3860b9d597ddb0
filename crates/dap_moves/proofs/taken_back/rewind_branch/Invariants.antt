use Rattle.std.proofs.Common.{◌≡◌, [], Some}
use Rattle.dap_moves.specs.Led.{Led}
use Rattle.dap_moves.specs.internal.Rolling.{NoneFrom}
use Rattle.dap_moves.proofs.Returning.{IsRest}
use Rattle.dap_moves.proofs.taken_back.rewind_branch.Given as goal

abbrev pub invariant-loop-index : goal.invariant-loop-index
invariant-loop-index l = record {
  led : Led l.initial.desk l.desk;
  system : l.desk.machine.checked ≡ l.initial.desk.machine.checked;
  rest : IsRest (Some l.branch) l.marks.lines.now l.marks.watched.now l.initial.desk l.desk;
  none : NoneFrom l.desk l.branch l.below;
  kept : l.kept.items ≡ [];
}

abbrev pub decreases-loop-index : goal.decreases-loop-index
decreases-loop-index l = l.below
