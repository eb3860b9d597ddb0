-- The text of a reply to a line.
use Rattle.std.specs.Prelude.{ℕ, List, [], ◌++◌, codes, Some}
use Rattle.system.specs.declared.system.System.{System}
use Rattle.locked_execution.specs.declared.command.Command.{Command}
use Rattle.locked_execution.specs.declared.command.Reply.{Reply}
use Rattle.line_text.specs.EventText.{variable_text}
use Rattle.line_text.specs.AnswerText as text
use Rattle.debug_session.specs.declared.line.Line.{Line}
pub use Rattle.line_text.specs.AnswerText.{ending}

-- the name of the variable whose value is asked for, `?` where none is
abbrev pub asked_variable : System → Command → List ℕ
asked_variable system (Command.Value x) = variable_text system (Some x)
asked_variable system command = codes "?"

-- the answer to a command
abbrev pub answer_text : System → Command → Reply → List ℕ
answer_text system command (Reply.Stepped ticket e) = text.entry_text system (codes "step") ticket e
answer_text system command (Reply.Undone ticket e) = text.entry_text system (codes "undone") ticket e
answer_text system command (Reply.Rolled count) = text.numbered_text (codes "rolled") count
answer_text system command (Reply.Blamed ticket) = text.numbered_text (codes "blame") ticket
answer_text system command (Reply.Ready events) = text.ready_text system events
answer_text system command (Reply.Consequences tickets) = text.consequences_text tickets
answer_text system command (Reply.Live pairs) = text.live_text system pairs
answer_text system command (Reply.Value v) = text.valued_text (asked_variable system command) v.bits
answer_text system command (Reply.Stopped line) = text.numbered_text (codes "stopped") line
answer_text system command Reply.Idle = codes "idle" ++ ending
answer_text system command Reply.Done = codes "ok" ++ ending
answer_text system command (Reply.Refused why) = codes "refused" ++ text.refusal_text why ++ ending

-- the answer to a line where this is the reply to its command; a line that asks for no command has none
abbrev pub line_answer : System → Line → Reply → List ℕ
line_answer system (Line.Asked command) reply = answer_text system command reply
line_answer system _ reply = []

-- the answer to a line that names the session whose lines follow
abbrev pub session_text : ℕ → List ℕ
session_text session = text.numbered_text (codes "session") session
