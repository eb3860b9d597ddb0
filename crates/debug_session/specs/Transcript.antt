-- What is answered to the lines of a script, and how a session ends.
use Rattle.std.specs.Prelude.{ℕ, suc, ◌≡◌, ◌≢◌, ◌⊎◌, List, [], ◌∷◌, ◌++◌, length, Option, IfSome}
use Rattle.std.specs.Prelude.{Result, Err, MatchResult}
use Rattle.std.specs.Io.KnownBytes.{Appends, Consumes, IsAtEnd}
use Rattle.system.specs.declared.system.System.{System}
use Rattle.runs.specs.Live.{events}
use Rattle.source_view.specs.View.{IsView}
use Rattle.trace_file.specs.TraceText.{IsTrace}
use Rattle.locked_execution.specs.AtDesk.{breaks_of}
use Rattle.locked_execution.specs.Performs.{Answers}
use Rattle.locked_execution.specs.declared.command.Reply.{Reply}
use Rattle.debug_session.specs.declared.line.Line.{Line}
use Rattle.debug_session.specs.declared.fault.Fault.{Fault}
use Rattle.debug_session.specs.Accepting.{AcceptedAs, IsRefused}
use Rattle.debug_session.specs.AtLine.{AtLine, first_line}
use Rattle.debug_session.specs.ReplyText.{answer_text, session_text}
use Rattle.debug_session.specs.Lines.{Says, AsksNothing, LineMayWantMemory}
use Rattle.debug_session.specs.Script.{AreLines, EndWith}

-- a command is answered with the text of the reply to the session; a line that names a session makes it the one whose
-- lines follow; `view` is answered with the view that this session has of the source, `trace` with the trace of the
-- live events, and an empty line with nothing
abbrev pub SaidAnswered : System → AtLine → Line → List ℕ → AtLine → Type 0
SaidAnswered system a (Line.Asked c) answer a' =
    (reply : Reply) × Answers a.desk a.session c reply a'.desk × (a'.session ≡ a.session) × (a'.source ≡ a.source)
    × (answer ≡ answer_text system c reply)
SaidAnswered system a (Line.Session session) answer a' =
    (answer ≡ session_text session) × (a' ≡ record { desk = a.desk; session = session; source = a.source })
SaidAnswered system a Line.View answer a' =
    IsView a.desk.machine (breaks_of a.desk a.session) a.source answer × (a' ≡ a)
SaidAnswered system a Line.Trace answer a' = IsTrace (events a.desk.machine.live) answer × (a' ≡ a)
SaidAnswered system a Line.Empty answer a' = (answer ≡ []) × (a' ≡ a)

-- the line is answered so, and leaves a'
abbrev pub LineAnswered : System → AtLine → List ℕ → List ℕ → AtLine → Type 0
LineAnswered system a line answer a' = (said : Line) × Says system line said × SaidAnswered system a said answer a'

-- the lines are answered one after another; the answers together are `output`
abbrev pub Transcript : System → AtLine → List (List ℕ) → List ℕ → AtLine → Type 0
Transcript system a [] output a' = (output ≡ []) × (a' ≡ a)
Transcript system a (line ∷ lines) output a' =
    (answer : List ℕ) × (rest : List ℕ) × (m : AtLine)
    × LineAnswered system a line answer m × Transcript system m lines rest a' × (output ≡ answer ++ rest)

-- the answers to the lines are out, and no more
abbrev pub Answered : System → AtLine → List (List ℕ) → List ℕ → Type 0
Answered system a lines output = (a' : AtLine) × Transcript system a lines output a'

-- a beginning of the answers to the lines is out
abbrev pub BeginsToAnswer : System → AtLine → List (List ℕ) → List ℕ → Type 0
BeginsToAnswer system a lines output = (missing : List ℕ) × Answered system a lines (output ++ missing)

-- the session took these bytes and came to their end: all lines are answered
abbrev pub Completed : System → AtLine → List ℕ → List ℕ → Type 0
Completed system a taken output =
    (lines : List (List ℕ)) × (last : List ℕ) × AreLines taken lines last
    × Answered system a (lines ++ last ∷ []) output

-- the session took these bytes and stopped at a fault; `at_end` says that the reader is at its end
abbrev pub StoppedByFault : System → AtLine → Type 0 → List ℕ → List ℕ → Fault → Type 0
-- reading failed: the complete lines are answered
StoppedByFault system a at_end taken output Fault.ReadFailed =
    (lines : List (List ℕ)) × (last : List ℕ) × AreLines taken lines last × Answered system a lines output
-- there was no memory to read the last line, or none to answer it: the lines before it are answered
StoppedByFault system a at_end taken output Fault.Memory =
    (lines : List (List ℕ)) × (last : List ℕ) × Answered system a lines output
    × (AreLines taken lines last ⊎ (EndWith at_end taken lines last × LineMayWantMemory system last))
-- the last line, of this number, says nothing that can be answered: the lines before it are answered
StoppedByFault system a at_end taken output (Fault.BadCommand number) =
    (lines : List (List ℕ)) × (last : List ℕ) × EndWith at_end taken lines last × Answered system a lines output
    × (number ≡ suc (length lines)) × (last ≢ []) × AsksNothing system last
-- writing failed: a beginning of the answers to the lines that were taken is out
StoppedByFault system a at_end taken output Fault.WriteFailed =
    (lines : List (List ℕ))
    × ((AreLines taken lines [] × BeginsToAnswer system a lines output)
    ⊎ ((last : List ℕ) × EndWith at_end taken lines last × BeginsToAnswer system a (lines ++ last ∷ []) output))
-- no other fault comes once the session has begun
StoppedByFault system a at_end taken output (Fault.NoSystem fault) = ⊥
StoppedByFault system a at_end taken output (Fault.Trace fault) = ⊥
StoppedByFault system a at_end taken output (Fault.Refused why) = ⊥

-- what a session took from its reader and gave to its writer, and how it ended
abbrev pub Ends : System → AtLine → Option (List ℕ) → Option (List ℕ) → Option (List ℕ) → Option (List ℕ)
    → Result (Unit {0}) Fault → Type 0
Ends system a read left wrote contents result =
    (taken : List ℕ) × (given : List ℕ) × Consumes read left taken × Appends wrote contents given
    × MatchResult result
    (λ _. IfSome read (λ _. IsAtEnd left) × Completed system a taken given)
    (λ fault. StoppedByFault system a (IfSome read (λ _. IsAtEnd left)) taken given fault)

-- what came of source and stimulus: they were refused, or there was no memory to begin with, and nothing was read and
-- nothing written; or they gave a system, and the session on it ended so
abbrev pub Debugged : List ℕ → List ℕ → Type 0 → Option (List ℕ) → Option (List ℕ) → Option (List ℕ) → Option (List ℕ)
    → Result (Unit {0}) Fault → Type 0
Debugged source stimulus untouched read left wrote contents result =
    ((fault : Fault) × (result ≡ Err fault) × IsRefused source stimulus fault × untouched)
    ⊎ ((system : System) × AcceptedAs source stimulus system
    × Ends system (first_line system source) read left wrote contents result)
