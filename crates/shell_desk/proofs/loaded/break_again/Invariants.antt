use Rattle.shell_desk.specs.internal.Again.{SetsAgain, IsUpTo}
use Rattle.shell_desk.proofs.loaded.break_again.Given as goal

abbrev pub invariant-loop-line : goal.invariant-loop-line
invariant-loop-line g l = SetsAgain l.before (IsUpTo l.session l.line) l.initial.desk l.desk
