-- The view of a source.
use Rattle.std.specs.Prelude.{◌≡◌, ℕ, suc, ◌-◌, ◌==◌, ◌&&◌, not, List, [], ◌∷◌, ◌++◌, Bool, false, if◌then◌else◌, Option, Some, None, codes, length, replicate}
use Rattle.std.specs.List.{list_any}
use Rattle.std.specs.Fmt.{decimal}
use Rattle.syntax.specs.Texts.{lines}
use Rattle.system.specs.Expression.{is_in}
use Rattle.runs.specs.Choices.{choice_of}
use Rattle.runs.specs.Events.{acting}
use Rattle.runs.specs.Live.{events}
use Rattle.runs.specs.Object.{Reaches}
use Rattle.runs.specs.Ready.{ReadyList}
use Rattle.runs.specs.Steps.{State}
use Rattle.runs.specs.Tests.{same_place}
use Rattle.runs.specs.declared.event.Event.{Event}
use Rattle.dependence.specs.EventPlaces.{is_open_after}
use Rattle.machine.specs.AtMachine.{AtMachine, object}
use Rattle.machine.specs.Branching.{line_of}
use Rattle.source_view.specs.declared.marks.Marks.{Marks}

-- whether the line is that of number n
abbrev pub is_line : Option ℕ → ℕ → Bool
is_line None n = false
is_line (Some line) n = line == n

-- whether e acts on line n
abbrev pub acts_on : AtMachine → ℕ → Event → Bool
acts_on machine n e = is_line (line_of machine e) n

-- whether e and f open different arms of the `select` at one place
abbrev pub are_in_conflict : AtMachine → Event → Event → Bool
are_in_conflict machine e f =
    same_place (acting e) (acting f)
    && (not ((choice_of e).arm == (choice_of f).arm) && is_open_after (events machine.live) machine.checked (acting e))

-- whether one of the events acts on line n
abbrev pub is_ready_on : AtMachine → List Event → ℕ → Bool
is_ready_on machine es n = list_any (acts_on machine n) es

-- whether one of the events acts on line n and is in conflict with another
abbrev pub is_conflict_on : AtMachine → List Event → ℕ → Bool
is_conflict_on machine es n = list_any (λ e. acts_on machine n e && list_any (are_in_conflict machine e) es) es

-- the marks of line n, where these events are ready
abbrev pub marks_on : AtMachine → List Event → List ℕ → ℕ → Marks
marks_on machine es breaks n =
    record {
      is_ready = is_ready_on machine es n;
      has_break = is_in n breaks;
      in_conflict = is_conflict_on machine es n;
    }

-- digits in 5 places, or in as many as they need
abbrev pub right_aligned : List ℕ → List ℕ
right_aligned digits = replicate (5 - length digits) 32 ++ digits

-- the mark where it is to be seen, else a space
abbrev pub mark : Bool → List ℕ → List ℕ
mark is_seen text = if is_seen then text else codes " "

-- the line of this number, with its marks
abbrev pub line_text : ℕ → Marks → List ℕ → List ℕ
line_text number marks line =
    right_aligned (decimal number) ++ codes " "
    ++ mark marks.is_ready (codes ">") ++ mark marks.has_break (codes "*") ++ mark marks.in_conflict (codes "!")
    ++ codes " " ++ line ++ codes "\n"

-- the lines from this number on, with the marks of each number
abbrev pub lines_text : (ℕ → Marks) → ℕ → List (List ℕ) → List ℕ
lines_text marks number [] = []
lines_text marks number (line ∷ rest) = line_text number (marks number) line ++ lines_text marks (suc number) rest

-- the view, where these events are ready
abbrev pub view_text : AtMachine → List Event → List ℕ → List ℕ → List ℕ
view_text machine es breaks source = lines_text (marks_on machine es breaks) 1 (lines source)

-- the bytes are the view, where just those events are ready that are allowed after the live ones
abbrev pub IsView : AtMachine → List ℕ → List ℕ → List ℕ → Type 0
IsView machine breaks source bytes =
    (T : State) × (es : List Event) × Reaches (object machine) T × ReadyList T es
    × (bytes ≡ view_text machine es breaks source)
