-- Expressions that were typed as lines.
use Rattle.std.specs.Prelude.{◌≡◌, ◌⊎◌, ◌||◌, ◌==◌, ◌-◌, ℕ, Bool, false, true, cond, is_some, List, [], ◌∷◌, Option, None, Some, nat_eq, codes, drop, length, take}
use Rattle.std.specs.Char.{is_ascii_whitespace}
use Rattle.std.specs.Cmp.Lexicographic.{pointwise}
use Rattle.std.specs.List.{prefix_len, suffix_len}
use Rattle.serde_json.specs.View.{view}
use Rattle.runs.specs.declared.event.Choice.{Choice}
use Rattle.locked_execution.specs.AtDesk.{AtDesk}
use Rattle.locked_execution.specs.Performs.{Answers}
use Rattle.locked_execution.specs.declared.command.Command.{Command}
use Rattle.locked_execution.specs.declared.command.Reply.{Reply}
use Rattle.system.specs.declared.system.System.{System}
use Rattle.debug_session.specs.Lines.{Asks, AsksNothing, MayBeStep, Says}
use Rattle.debug_session.specs.declared.line.Line.{Line}
use Rattle.dap_messages.specs.Arguments.{number_named, text_named}
use Rattle.dap_messages.specs.declared.answer.Answer.{Answer}
use Rattle.dap_messages.specs.declared.request.Request.{Request}
use Rattle.dap_messages.specs.declared.told.Stop.{Stop}
use Rattle.dap_threads.specs.Frames.{FindsNamed, HasFrame, Misses}
use Rattle.dap_views.specs.Named.{found, is_declared}
use Rattle.dap_views.specs.declared.program.Program.{Program}
use Rattle.dap_requests.specs.Back.{Backs, Reverses}
use Rattle.dap_requests.specs.Said.{TellsStop, TellsTexts}

-- whether the first byte that is not blank is a `!`
abbrev pub begins_marked : List ℕ → Bool
begins_marked [] = false
begins_marked (x ∷ xs) = cond (is_ascii_whitespace x) (begins_marked xs) (x == 33)

abbrev pub is_marked : Option (List ℕ) → Bool
is_marked None = false
is_marked (Some text) = begins_marked text

-- whether it is the console
abbrev pub is_console : Option (List ℕ) → Bool
is_console None = false
is_console (Some word) = pointwise nat_eq word (codes "repl")

-- it was typed in the console, or a `!` stands before it
abbrev pub is_typed : Request → Bool
is_typed request =
    is_console (text_named (codes "context") (view request.arguments))
    || is_marked (text_named (codes "expression") (view request.arguments))

-- a text without the bytes before it that pass, and without those behind it
abbrev pub without_before : (ℕ → Bool) → List ℕ → List ℕ
without_before p text = drop (prefix_len p text) text

abbrev pub without_behind : (ℕ → Bool) → List ℕ → List ℕ
without_behind p text = take (length text - suffix_len p text) text

-- a text without the blanks around it
abbrev pub bare : List ℕ → List ℕ
bare text = without_behind is_ascii_whitespace (without_before is_ascii_whitespace text)

-- whether a byte is the mark
abbrev pub is_mark : ℕ → Bool
is_mark byte = byte == 33

-- the line of an expression: it has no blanks around it, and no marks before it
abbrev pub line_of : Option (List ℕ) → List ℕ
line_of None = []
line_of (Some text) = bare (without_before is_mark (bare text))

-- the line of a request
abbrev pub line_in : Request → List ℕ
line_in request = line_of (text_named (codes "expression") (view request.arguments))

-- how a command is told: that the thread of this branch stands, where steps were taken or taken back; else in texts
-- alone
abbrev pub TellsMove : Bool → ℕ → Answer → Answer → Type 0
TellsMove true k a b = TellsStop a Stop.Stepped k b
TellsMove false k a b = TellsTexts a b

-- what is kept in mind of the steps before which a run has stood: none where steps were taken or taken back, else all
abbrev pub kept_by : Bool → List Choice → List Choice
kept_by true before = []
kept_by false before = before

-- whether a reply tells that steps were taken or taken back
abbrev pub has_moved : Reply → Bool
has_moved (Reply.Stepped t e) = true
has_moved (Reply.Undone t e) = true
has_moved (Reply.Rolled count) = true
has_moved _ = false

-- a command is answered in the session of the console, and told where branch k is meant
abbrev pub AnswersAt : AtDesk → ℕ → Command → List Choice → Answer → Answer → AtDesk → List Choice → Type 0
AnswersAt d k command before a b d' after =
    (reply : Reply) × Answers d 0 command reply d' × TellsMove (has_moved reply) k a b
    × (after ≡ kept_by (has_moved reply) before)

-- the command for which the line asks is asked there
abbrev pub AsksAt : AtDesk → ℕ → List ℕ → List Choice → Answer → Answer → AtDesk → List Choice → Type 0
AsksAt d k line before a b d' after =
    (command : Command) × Asks d.machine.checked line (Line.Asked command) × AnswersAt d k command before a b d' after

-- what a typed line does to a desk where branch k is meant, and how that is told: the command for which it asks; or
-- where it is `back`, the newest step of the branch is taken back; or where it is `rewind`, steps of all are. `before`
-- are the steps before which a run has stood, and `after` those that are kept in mind
abbrev pub LineDoes : Program → AtDesk → ℕ → List ℕ → List Choice → Answer → Answer → AtDesk → List Choice → Type 0
LineDoes program d k line before a b d' after =
    AsksAt d k line before a b d' after
    ⊎ ((line ≡ codes "back")
    × ((stop : Stop) × (branch : ℕ) × TellsStop a stop branch b
    × Backs program.excepts d k before stop branch d' after))
    ⊎ ((line ≡ codes "rewind")
    × ((stop : Stop) × (branch : ℕ) × TellsStop a stop branch b × Reverses program k None d stop branch d' after))

-- nothing is done, and no event told
abbrev pub DoesNothing : AtDesk → Answer → Answer → AtDesk → Type 0
DoesNothing d a b d' = (d' ≡ d) × (b.notes ≡ a.notes)

-- nothing moves on it: it is over, or its run has not begun
abbrev pub Rests : Program → Type 0
Rests program = (program.ended ≡ true) ⊎ (program.begun ≡ false)

-- a name that is read in this call: it means something there, or may mean more than one thing
abbrev pub IsName : Program → ℕ → List ℕ → Type 0
IsName program call line =
    (is_some (found program.index call line) ≡ true) ⊎ (is_declared program.index.names.items line ≡ true)

-- whether what a line says asks the desk for a command
abbrev pub is_asked : Line → Bool
is_asked (Line.Asked command) = true
is_asked _ = false

-- the line asks for no command, or may ask for a step and there was no memory to read it
abbrev pub AsksNone : System → List ℕ → Answer → Type 0
AsksNone system line b =
    AsksNothing system line
    ⊎ ((said : Line) × Says system line said × (is_asked said ≡ false))
    ⊎ ((b.lacks ≡ true) × MayBeStep line)

-- the number of the frame that a request names
abbrev pub frame_named : Request → Option ℕ
frame_named request = number_named (codes "frameId") (view request.arguments)

-- why an expression does nothing: it was not typed; or nothing moves; or its frame is not found; or it is a name there,
-- or asks for no command
abbrev pub MayRest : Program → Request → AtDesk → Answer → Type 0
MayRest program request d b =
    (is_typed request ≡ false) ⊎ Rests program
    ⊎ Misses d.machine program.index program.sight (frame_named request) b
    ⊎ ((k : ℕ) × (call : ℕ) × FindsNamed d.machine program.index program.sight (frame_named request) (Some (k, call))
    × (IsName program call (line_in request) ⊎ AsksNone d.machine.checked (line_in request) b))

-- what an expression does: nothing, for one of these reasons; or what its line does, and the branch is that of the frame
-- that is named
abbrev pub Evaluates : Program → Request → AtDesk → List Choice → Answer → Answer → AtDesk → List Choice → Type 0
Evaluates program request d before a b d' after =
    (DoesNothing d a b d' × (after ≡ before) × MayRest program request d b)
    ⊎ ((k : ℕ) × HasFrame d.machine program.index program.sight (frame_named request) k
    × LineDoes program d k (line_in request) before a b d' after)
