-- The text that tells why.
use Rattle.std.specs.Prelude.{◌≡◌, ◌==◌, ℕ, List, [], ◌++◌, Bool, Option, None, Some, MatchOption, codes, cond, length}
use Rattle.std.specs.Fmt.{decimal}
use Rattle.value.specs.Word.{Word}
use Rattle.system.specs.declared.system.System.{System}
use Rattle.runs.specs.Live.{LastWriter, Live, NoWriter}
use Rattle.runs.specs.Does.{Answers}
use Rattle.runs.specs.Commands.{Command}
use Rattle.runs.specs.declared.command.Refusal.{Refusal}
use Rattle.machine.specs.AtMachine.{AtMachine, object}
use Rattle.machine.specs.Results.{value_reply}
use Rattle.trace_file.specs.Loading.{IsLoaded}
use Rattle.past.specs.PastText.{ending, past_text}
use Rattle.past.specs.declared.past.Past.{Past}
use Rattle.questions.specs.Asking.{Explains}
use Rattle.questions.specs.declared.reason.Reason.{Reason}
use Rattle.questions.specs.declared.why.Why.{Why}

-- ---- a variable

-- the value of a variable, if there is such a variable
abbrev pub is_text : Option Word → List ℕ
is_text None = []
is_text (Some v) = codes " is " ++ decimal v.bits

-- the step that wrote it last, if one did
abbrev pub written_text : Option ℕ → List ℕ
written_text None = []
written_text (Some t) = codes ", written by step " ++ decimal t

abbrev pub value_line : List ℕ → Option Word → Option ℕ → List ℕ
value_line name v writer = name ++ is_text v ++ written_text writer ++ ending

-- the machine answers that the variable x has this value
abbrev pub IsValue : AtMachine → ℕ → Option Word → Type 0
IsValue m x v = Answers (object m) (Command.Value x) (value_reply v) (object m)

-- this step wrote variable x last, or none did
abbrev pub IsWriter : Live → ℕ → Option ℕ → Type 0
IsWriter live x writer = MatchOption writer (NoWriter live x) (λ t. LastWriter live x t)

-- the first line of the text: of the variable x of this name
abbrev pub IsValueLine : AtMachine → List ℕ → ℕ → List ℕ → Type 0
IsValueLine m name x line =
    (v : Option Word) × (writer : Option ℕ) × IsValue m x v × IsWriter m.live x writer × (line ≡ value_line name v writer)

-- the text of the past of a variable
abbrev pub IsValueText : AtMachine → List ℕ → ℕ → Past → List ℕ → Type 0
IsValueText m name x past text =
    (line : List ℕ) × IsValueLine m name x line × (text ≡ line ++ past_text m.checked m.live past)

-- ---- a step

abbrev pub step_text : AtMachine → ℕ → Past → List ℕ
step_text m t past = codes "step " ++ decimal t ++ ending ++ past_text m.checked m.live past

-- ---- why there is nothing to tell

abbrev pub unwritten_text : List ℕ → List ℕ
unwritten_text name = codes "no step of the trace wrote `" ++ name ++ codes "`, so it is 0\n"

-- the word behind a number of steps
abbrev pub steps_word : ℕ → List ℕ
steps_word count = cond (count == 1) (codes " step") (codes " steps")

abbrev pub missing_text : List ℕ → ℕ → List ℕ
missing_text subject count =
    codes "the trace has no step " ++ subject ++ codes ": it has " ++ decimal count ++ steps_word count ++ ending

-- ---- all of it

-- the answer tells this reason, in these words; those of a name that nothing has are left open
abbrev pub TellsIn : AtMachine → List ℕ → Reason → Why → Type 0
TellsIn m subject (Reason.Value x past) (Why.Told lines) = IsValueText m subject x past lines.items
TellsIn m subject (Reason.Step t past) (Why.Told lines) = lines.items ≡ step_text m t past
TellsIn m subject Reason.Unwritten (Why.Refused why words) =
    (why ≡ Refusal.NeverWritten) × (words.items ≡ unwritten_text subject)
TellsIn m subject Reason.Missing (Why.Refused why words) =
    (why ≡ Refusal.NoSuchEvent) × (words.items ≡ missing_text subject (length m.live))
TellsIn m subject Reason.Unknown (Why.Refused why words) = why ≡ Refusal.NeverWritten
TellsIn m subject reason answer = ⊥

-- behind the trace this is why, and the answer tells it
abbrev pub IsWhyText : System → List ℕ → List ℕ → Bool → Why → Type 0
IsWhyText system trace subject all answer =
    (m : AtMachine) × (reason : Reason) × IsLoaded system trace m × Explains m.checked m.live subject all reason
    × TellsIn m subject reason answer
