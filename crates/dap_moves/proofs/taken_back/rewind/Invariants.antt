use Rattle.std.proofs.Common.{◌≡◌, [], None, length}
use Rattle.dap_moves.specs.Led.{Led}
use Rattle.dap_moves.proofs.Returning.{IsRest}
use Rattle.dap_moves.proofs.taken_back.rewind.Given as goal

abbrev pub invariant-loop-ended : goal.invariant-loop-ended
invariant-loop-ended l = record {
  led : Led l.initial.desk l.desk;
  system : l.desk.machine.checked ≡ l.initial.desk.machine.checked;
  rest : IsRest None l.marks.lines.now l.marks.watched.now l.initial.desk l.desk;
  kept : l.kept.items ≡ [];
}

abbrev pub decreases-loop-ended : goal.decreases-loop-ended
decreases-loop-ended l = length l.desk.machine.live
