use Rattle.std.proofs.Common.{◌≡◌, length, take, vec_len}
use Rattle.std.specs.Vec.{vec_capacity}
use Rattle.locked_execution.specs.Answered.{Answered}
use Rattle.locked_execution.proofs.asked.run_commands.Given as goal

abbrev pub invariant-loop-session : goal.invariant-loop-session
invariant-loop-session l = record {
  answered : Answered l.initial.desk (take l.session-index l.commands) l.replies.items l.desk;
  system : l.desk.machine.checked ≡ l.initial.desk.machine.checked;
  room : vec_capacity l.replies ≡ length l.commands;
  number : vec_len l.replies ≡ l.session-index;
}
