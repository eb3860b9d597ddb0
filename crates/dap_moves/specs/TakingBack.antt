-- Where a run back goes, and why it ends there.
use Rattle.std.specs.Prelude.{◌≡◌, ◌⊎◌, ℕ, ◌+◌, ◌++◌, List, [], ◌∷◌, true, false, Option, None, Some, length, slice_get}
use Rattle.syntax.specs.Lists.{Every}
use Rattle.runs.specs.Choices.{choice_of}
use Rattle.runs.specs.Live.{LiveAt}
use Rattle.runs.specs.declared.event.Choice.{Choice}
use Rattle.runs.specs.declared.event.Event.{Event}
use Rattle.runs.specs.declared.command.Refusal.TheVariants.{NeededBy}
use Rattle.machine.specs.AtMachine.{AtMachine}
use Rattle.locked_execution.specs.AtDesk.{AtDesk}
use Rattle.locked_execution.specs.Performs.{Answers}
use Rattle.locked_execution.specs.declared.command.Command.{Command}
use Rattle.locked_execution.specs.declared.command.Reply.{Reply}
use Rattle.dap_views.specs.Seen.{acting_branch}
use Rattle.dap_moves.specs.Moves.{NewestTicket, quiet}
use Rattle.dap_moves.specs.Passing.{PassesBy, StopsAt}
use Rattle.dap_moves.specs.Running.{is_watched}
use Rattle.dap_views.specs.declared.watched.Watched.{Watched}
use Rattle.dap_moves.specs.declared.taken_back.Rewound.{Rewound}

-- the live step of the greatest ticket has this one
abbrev pub IsLast : AtDesk → ℕ → Type 0
IsLast d t = (i : ℕ) × (e : Event) × (slice_get d.machine.live i ≡ Some (t, e)) × (i + 1 ≡ length d.machine.live)

-- the step that goes next has this ticket: of all it is the last, of branch k alone the newest in which that took part
abbrev pub GoesNext : AtDesk → Option ℕ → ℕ → Type 0
GoesNext d None t = IsLast d t
GoesNext d (Some k) t = NewestTicket d k (Some t)

-- none is left that could go next
abbrev pub NoneLeft : AtDesk → Option ℕ → Type 0
NoneLeft d None = d.machine.live ≡ []
NoneLeft d (Some k) = NewestTicket d k None

-- a step that was taken back, from where, and what that left
pub record Returned : Type 0 where
  pub ticket : ℕ
  pub event : Event
  pub from : AtDesk
  pub left : AtDesk

-- it was undone
abbrev pub IsUndone : Returned → Type 0
IsUndone t = Answers t.from quiet (Command.Undo t.ticket) (Reply.Undone t.ticket t.event) t.left

-- its undo was refused, since another step depends on it, and it was rolled back with all that do
pub record IsRolled (t : Returned) : Type 0 where
  pub live : LiveAt t.from.machine.live t.ticket t.event
  pub refused : (u : ℕ) × Answers t.from quiet (Command.Undo t.ticket) (Reply.Refused (NeededBy u)) t.from
  pub rolled : (n : ℕ) × Answers t.from quiet (Command.Roll t.ticket) (Reply.Rolled n) t.left

-- it was the one that goes next; of a branch alone, others may have gone with it
abbrev pub TakesBack : Option ℕ → Returned → Type 0
TakesBack None t = GoesNext t.from None t.ticket × IsUndone t
TakesBack (Some k) t = GoesNext t.from (Some k) t.ticket × (IsUndone t ⊎ IsRolled t)

-- the steps of a run back, one after another
abbrev pub Returns : AtDesk → Option ℕ → List Returned → AtDesk → Type 0
Returns d only [] d' = d' ≡ d
Returns d only (t ∷ ts) d' = (t.from ≡ d) × TakesBack only t × Returns t.left only ts d'

-- where the lines of its actions are looked up: in what was left; of a branch alone, before the step went
abbrev pub seen_on : Option ℕ → Returned → AtMachine
seen_on None t = t.left.machine
seen_on (Some k) t = t.from.machine

-- the run goes on behind it: it is not watched, and no action of it is on one of the lines
pub record GoesPast (only : Option ℕ) (lines : List ℕ) (watched : List Watched) (t : Returned) : Type 0 where
  pub unwatched : is_watched watched t.event ≡ false
  pub passes : PassesBy (seen_on only t) lines t.event

-- so it did behind all of these
abbrev pub GoesPastAll : Option ℕ → List ℕ → List Watched → List Returned → Type 0
GoesPastAll only lines watched ts = Every (GoesPast only lines watched) ts

-- so it did behind all but the last, which is this one
pub record EndsWith (only : Option ℕ) (lines : List ℕ) (watched : List Watched) (ts : List Returned) (last : Returned) :
    Type 0 where
  pub before : List Returned
  pub is : ts ≡ before ++ last ∷ []
  pub past : GoesPastAll only lines watched before

-- why a run back ends at d behind these steps, and nothing stopped it sooner: none is left; or the last has an action
-- in this branch on this line, which is one of these; or it has this ticket, acts in this branch, and is watched
abbrev pub EndsRightly : Option ℕ → List ℕ → List Watched → AtDesk → List Returned → Rewound → Type 0
EndsRightly only lines watched d ts Rewound.AtBeginning = GoesPastAll only lines watched ts × NoneLeft d only
EndsRightly only lines watched d ts (Rewound.AtLine branch line) =
    (last : Returned) × EndsWith only lines watched ts last × (is_watched watched last.event ≡ false)
    × StopsAt (seen_on only last) lines last.event branch line
EndsRightly only lines watched d ts (Rewound.Watched branch ticket) =
    (last : Returned) × EndsWith only lines watched ts last × (is_watched watched last.event ≡ true)
    × (last.ticket ≡ ticket) × (branch ≡ acting_branch (seen_on only last) last.event)

-- where it stops at a line, it keeps the choice of the step that was taken back last, if there is memory; else it keeps
-- none
abbrev pub KeepsBack : List Returned → Rewound → List Choice → Type 0
KeepsBack ts (Rewound.AtLine branch line) kept =
    (kept ≡ [])
    ⊎ ((before : List Returned) × (last : Returned) × (ts ≡ before ++ last ∷ [])
    × (kept ≡ choice_of last.event ∷ []))
KeepsBack ts _ kept = kept ≡ []

-- a run back from d to d', of all or of a branch alone, which these lines stop and what is watched: it takes back only
-- the step that goes next, and ends for this reason
pub record GoesBack (only : Option ℕ) (lines : List ℕ) (watched : List Watched) (d d' : AtDesk) (ended : Rewound)
    (kept : List Choice) : Type 0 where
  pub taken : List Returned
  pub back : Returns d only taken d'
  pub rightly : EndsRightly only lines watched d' taken ended
  pub keeps : KeepsBack taken ended kept
