-- What commands of sessions leave, whichever they were.
use Rattle.std.specs.Prelude.{ℕ, ◌<◌, List}
use Rattle.syntax.specs.Lists.{Every}
use Rattle.locked_execution.specs.AtDesk.{AtDesk}
use Rattle.locked_execution.specs.Answered.{Answered}
use Rattle.locked_execution.specs.declared.command.Command.{Command}
use Rattle.locked_execution.specs.declared.command.Reply.{Reply}

-- from d some commands of sessions, answered one after another, lead to d'
pub record Led (d d' : AtDesk) : Type 0 where
  pub commands : List (ℕ × Command)
  pub sessions : Every (λ (x : ℕ × Command). x.0 < 16) commands
  pub replies : List Reply
  pub answered : Answered d commands replies d'
