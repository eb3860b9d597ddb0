-- The marks of lines, as they are gathered.
-- No reader has to believe it: `proofs/Agreeing.antt` ties it to `marks_on` of `View.antt`.
use Rattle.std.specs.Prelude.{◌≡◌, ◌<◌, ℕ, zero, suc, ◌&&◌, ◌||◌, Bool, false, List, [], ◌∷◌, length, slice_index_or}
use Rattle.system.specs.Expression.{is_in}
use Rattle.runs.specs.declared.event.Event.{Event}
use Rattle.machine.specs.AtMachine.{AtMachine}
use Rattle.source_view.specs.declared.marks.Marks.{Marks}
use Rattle.source_view.specs.View.{acts_on, are_in_conflict, is_ready_on}

-- none
abbrev pub no_marks : Marks
no_marks = record { is_ready = false; has_break = false; in_conflict = false }

-- the marks of line n, where those of line 1 are the first of the list
abbrev pub marks_at : List Marks → ℕ → Marks
marks_at marks zero = no_marks
marks_at marks (suc k) = slice_index_or marks k no_marks

-- the list has the marks of so many lines
abbrev pub AreMarks : List Marks → ℕ → (ℕ → Marks) → Type 0
AreMarks marks count of_line =
    (length marks ≡ count) × ((k : ℕ) → k < count → slice_index_or marks k no_marks ≡ of_line (suc k))

-- the marks of each line n changed so
abbrev pub ChangedBy : (ℕ → Marks → Marks) → List Marks → List Marks → Type 0
ChangedBy change old new =
    (k : ℕ) → k < length old → slice_index_or new k no_marks ≡ change (suc k) (slice_index_or old k no_marks)

-- the marks of line n where no event is ready
abbrev pub break_mark : List ℕ → ℕ → Marks
break_mark breaks n = record { is_ready = false; has_break = is_in n breaks; in_conflict = false }

-- whether e is in conflict with the first of these
abbrev pub conflicts_with_next : AtMachine → Event → List Event → Bool
conflicts_with_next machine e [] = false
conflicts_with_next machine e (f ∷ es) = are_in_conflict machine e f

-- whether one of the events acts on line n and is in conflict with the one behind it
abbrev pub neighbours_on : AtMachine → List Event → ℕ → Bool
neighbours_on machine [] n = false
neighbours_on machine (e ∷ es) n =
    (acts_on machine n e && conflicts_with_next machine e es) || neighbours_on machine es n

-- the marks of a line with that of an event, which may act on it, and may be in conflict
abbrev pub with_event : Bool → Bool → Marks → Marks
with_event acts conflicts marks =
    record {
      is_ready = marks.is_ready || acts;
      has_break = marks.has_break;
      in_conflict = marks.in_conflict || (acts && conflicts);
    }

-- the marks of line n with those of the events
abbrev pub with_events : AtMachine → List Event → ℕ → Marks → Marks
with_events machine es n marks =
    record {
      is_ready = marks.is_ready || is_ready_on machine es n;
      has_break = marks.has_break;
      in_conflict = marks.in_conflict || neighbours_on machine es n;
    }
