-- The whole promise, from the bytes of source, stimulus and script to the bytes of the answer.
use Rattle.std.specs.Prelude.{◌≡◌, ℕ, List, [], ◌∷◌, ◌++◌, Option, Some, Ok}
use Rattle.system.specs.declared.system.System.{System}
use Rattle.machine.specs.Headline.{Headline}
use Rattle.locked_execution.specs.AtDesk.{execution}
use Rattle.locked_execution.specs.Answered.{Answered}
use Rattle.locked_execution.specs.declared.command.Command.{Command}
use Rattle.locked_execution.specs.declared.command.Reply.{Reply}
use Rattle.debug_session.specs.Accepting.{AcceptedAs}
use Rattle.debug_session.specs.AtLine.{AtLine, first_line}
use Rattle.debug_session.specs.Script.{AreLines}
use Rattle.debug_session.specs.Transcript.{Debugged, Transcript}

-- what a designer may rely on who has the whole answer to a script
pub record Kept (source stimulus script answer : List ℕ) : Type 0 where
  -- source and stimulus are accepted, and mean this system
  pub system : System
  pub accepted : AcceptedAs source stimulus system
  -- the script is these lines, of which the last need not have an end
  pub lines : List (List ℕ)
  pub last : List ℕ
  pub are_lines : AreLines script lines last
  -- the answer is the answers to these lines, each given after the lines before it
  pub left : AtLine
  pub told : Transcript system (first_line system source) (lines ++ last ∷ []) answer left
  -- what the lines ask are commands of sessions, and each reply is the one that the object of one execution gives
  pub commands : List (ℕ × Command)
  pub replies : List Reply
  pub answered : Answered (first_line system source).desk commands replies left.desk
  -- the headline holds of what they leave
  pub headline : Headline (execution left.desk)

-- this is so whenever `debug` ends well on a reader that had the script and a writer that had nothing yet (what holds
-- of both where source and stimulus are refused does not matter here, and is left out)
abbrev pub PromiseIsKept : Type 0
PromiseIsKept =
    (source stimulus script answer : List ℕ) (rest : Option (List ℕ)) →
    Debugged source stimulus (Unit {0}) (Some script) rest (Some []) (Some answer) (Ok tt) →
    Kept source stimulus script answer
