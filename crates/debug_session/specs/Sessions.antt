-- A session in a thread of its own: what its lines are answered, and what its pass has then seen and made.
use Rattle.std.specs.Prelude.{ℕ, ◌≡◌, ◌≢◌, ◌⊎◌, List, []}
use Rattle.system.specs.declared.system.System.{System}
use Rattle.locked_object.specs.declared.pass.Pass.{Pass}
use Rattle.locked_execution.specs.AtDesk.{AtDesk}
use Rattle.locked_execution.specs.Calls.{Answered}
use Rattle.locked_execution.specs.declared.command.Command.{Command}
use Rattle.locked_execution.specs.declared.command.Reply.{Reply}
use Rattle.debug_session.specs.declared.line.Line.{Line}
use Rattle.debug_session.specs.declared.fault.Fault.{Fault}
use Rattle.debug_session.specs.ReplyText.{answer_text}
use Rattle.debug_session.specs.Lines.{Asks, AsksNothing, MayBeStep, Says}

-- what a script alone may ask for: another session, the view, the trace
abbrev pub IsOfScripts : Line → Type 0
IsOfScripts (Line.Session k) = Unit {0}
IsOfScripts Line.View = Unit {0}
IsOfScripts Line.Trace = Unit {0}
IsOfScripts _ = ⊥

-- the line asks for no command: it is not empty and asks for nothing, or it asks for what a script alone may ask for
abbrev pub AsksNoCommand : System → List ℕ → Type 0
AsksNoCommand system line =
    ((line ≢ []) × AsksNothing system line) ⊎ ((said : Line) × Asks system line said × IsOfScripts said)

-- for a command one call was made, with it, and the bytes are the text of its reply; an empty line has no bytes, and no
-- call was made
abbrev pub SaidToPass : System → AtDesk → Pass AtDesk Command Reply → Line → List ℕ → Pass AtDesk Command Reply → Type 0
SaidToPass system opening p (Line.Asked c) bytes p' =
    (reply : Reply) × Answered opening p c reply p' × (bytes ≡ answer_text system c reply)
SaidToPass system opening p Line.Empty bytes p' = (bytes ≡ []) × (p' ≡ p)
SaidToPass system opening p _ bytes p' = ⊥

-- the line is answered so
abbrev pub PassAnswered : System → AtDesk → Pass AtDesk Command Reply → List ℕ → List ℕ
    → Pass AtDesk Command Reply → Type 0
PassAnswered system opening p line bytes p' =
    (said : Line) × Says system line said × SaidToPass system opening p said bytes p'

-- why the line of this number has no answer: there was no memory to read it, and no call was made; there was none for
-- the bytes, behind the one call with its command; or it asks for no command, and no call was made
abbrev pub PassNotAnswered : System → AtDesk → Pass AtDesk Command Reply → List ℕ → ℕ → Fault
    → Pass AtDesk Command Reply → Type 0
PassNotAnswered system opening p line number Fault.Memory p' =
    (MayBeStep line × (p' ≡ p))
    ⊎ ((c : Command) × (reply : Reply) × Asks system line (Line.Asked c) × Answered opening p c reply p')
PassNotAnswered system opening p line number (Fault.BadCommand n) p' =
    (n ≡ number) × AsksNoCommand system line × (p' ≡ p)
PassNotAnswered system opening p line number _ p' = ⊥
