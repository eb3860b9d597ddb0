-- What an answer says that may be told without memory, and which lines are answered by none.
-- No reader has to believe it: `proofs/SessionLemmas.antt` ties `LineAnswered` to `Ends` of `Transcript.antt`.
use Rattle.std.specs.Prelude.{ℕ, ◌≡◌, ◌≢◌, ◌⊎◌, ◌++◌, List, [], Bool, true, false, codes}
use Rattle.system.specs.declared.system.System.{System}
use Rattle.runs.specs.declared.command.Refusal.{Refusal}
use Rattle.locked_execution.specs.Performs.{Answers}
use Rattle.locked_execution.specs.declared.command.Command.{Command}
use Rattle.locked_execution.specs.declared.command.Reply.{Reply}
use Rattle.debug_session.specs.declared.fault.Fault.{Fault}
use Rattle.debug_session.specs.declared.line.Line.{Line}
use Rattle.debug_session.specs.declared.told.Answer.{Answer}
use Rattle.debug_session.specs.AtLine.{AtLine}
use Rattle.debug_session.specs.Lines.{Says, MayBeStep}
use Rattle.debug_session.specs.ReplyText.{ending}

-- the bytes: those of the refusal, or those that were written
abbrev pub told_bytes : Bool → List ℕ → List ℕ
told_bytes true text = codes "refused 1" ++ ending
told_bytes false text = text

-- the bytes of an answer
abbrev pub told_text : Answer → List ℕ
told_text answer = told_bytes answer.is_without_memory answer.text.items

-- nothing is told
abbrev pub IsBlank : Answer → Type 0
IsBlank answer = (answer.is_without_memory ≡ false) × (answer.text.items ≡ [])

-- the command has a reply whose text may want memory: it is another than that there was none for the command
abbrev pub HasLongReply : AtLine → Command → AtLine → Type 0
HasLongReply a c a' =
    (reply : Reply) × Answers a.desk a.session c reply a'.desk × (reply ≢ Reply.Refused Refusal.Memory)

-- there was no memory for the answer to what a line says
abbrev pub SaidUntold : AtLine → Line → AtLine → Type 0
SaidUntold a (Line.Asked c) a' = HasLongReply a c a'
SaidUntold a Line.Empty a' = ⊥
SaidUntold a said a' = a'.desk ≡ a.desk

-- there was no memory to read the line, and nothing changed, or none for its answer
abbrev pub LineUntold : System → AtLine → List ℕ → Fault → AtLine → Type 0
LineUntold system a line Fault.Memory a' =
    (MayBeStep line × (a' ≡ a)) ⊎ ((said : Line) × Says system line said × SaidUntold a said a')
LineUntold system a line fault a' = a' ≡ a
