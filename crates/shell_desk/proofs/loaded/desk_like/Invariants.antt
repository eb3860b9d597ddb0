use Rattle.locked_execution.specs.AtDesk.{new_desk}
use Rattle.shell_desk.specs.internal.Again.{SetsAgain, IsOfFirst}
use Rattle.shell_desk.proofs.loaded.desk_like.Given as goal

abbrev pub invariant-loop-session : goal.invariant-loop-session
invariant-loop-session g l = SetsAgain l.before (IsOfFirst l.session l.last_line) (new_desk l.fn.machine) l.desk
