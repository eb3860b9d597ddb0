-- What comes of one turn of a run back. No reader has to believe it: the contracts of `rewind` and `rewind_branch`
-- speak of whole runs back.
use Rattle.std.specs.Prelude.{◌≡◌, ◌⊎◌, ℕ, ◌≤◌, ◌<◌, List, [], ◌∷◌, true, false, Option, None, Some, length, slice_get}
use Rattle.runs.specs.Choices.{choice_of}
use Rattle.runs.specs.Live.{LiveAt}
use Rattle.runs.specs.declared.event.Choice.{Choice}
use Rattle.runs.specs.declared.event.Event.{Event}
use Rattle.machine.specs.AtMachine.{AtMachine}
use Rattle.locked_execution.specs.AtDesk.{AtDesk}
use Rattle.locked_execution.specs.Performs.{Answers}
use Rattle.locked_execution.specs.declared.command.Command.{Command}
use Rattle.locked_execution.specs.declared.command.Reply.{Reply}
use Rattle.dap_moves.specs.Moves.{quiet}
use Rattle.dap_views.specs.Parts.{NewestBelow, takes_part}
use Rattle.dap_moves.specs.Passing.{PassesBy, StopsAt}
use Rattle.dap_moves.specs.Running.{is_watched}
use Rattle.dap_views.specs.Seen.{acting_branch}
use Rattle.dap_moves.specs.TakingBack.{GoesBack, GoesPast, IsRolled, IsUndone, Returned, TakesBack}
use Rattle.dap_views.specs.declared.watched.Watched.{Watched}
use Rattle.dap_moves.specs.declared.taken_back.Rewound.{Rewound}
use Rattle.dap_moves.specs.declared.taken_back.Rolled.{Rolled}

-- why a run back ends behind a step of this ticket, if it does, and what it keeps
abbrev pub StopsBehind : AtMachine → List ℕ → List Watched → ℕ → Event → Option Rewound → List Choice → Type 0
StopsBehind m lines watched t e None kept = (is_watched watched e ≡ false) × PassesBy m lines e × (kept ≡ [])
StopsBehind m lines watched t e (Some Rewound.AtBeginning) kept = ⊥
StopsBehind m lines watched t e (Some (Rewound.AtLine branch line)) kept =
    (is_watched watched e ≡ false) × StopsAt m lines e branch line × ((kept ≡ []) ⊎ (kept ≡ choice_of e ∷ []))
StopsBehind m lines watched t e (Some (Rewound.Watched branch ticket)) kept =
    (is_watched watched e ≡ true) × (t ≡ ticket) × (branch ≡ acting_branch m e) × (kept ≡ [])

-- the step that goes next is taken back, and the run goes on
abbrev pub GoesOn : Option ℕ → List ℕ → List Watched → AtDesk → AtDesk → Type 0
GoesOn only lines watched d d' =
    (t : Returned) × (t.from ≡ d) × (t.left ≡ d') × TakesBack only t × GoesPast only lines watched t

-- one turn: that, or why the run ends
abbrev pub TakesOneBack : Option ℕ → List ℕ → List Watched → AtDesk → AtDesk → Option Rewound → List Choice → Type 0
TakesOneBack only lines watched d d' None kept = GoesOn only lines watched d d' × (kept ≡ [])
TakesOneBack only lines watched d d' (Some ended) kept = GoesBack only lines watched d d' ended kept

-- branch k took part in no live step from this index on
abbrev pub NoneFrom : AtDesk → ℕ → ℕ → Type 0
NoneFrom d k from =
    (i : ℕ) (x : ℕ × Event) → from ≤ i → slice_get d.machine.live i ≡ Some x →
    takes_part d.machine.checked k x.1 ≡ false

-- the newest live step in which branch k took part, with its index and its ticket
pub record IsNewestAt (d : AtDesk) (k i t : ℕ) (e : Event) : Type 0 where
  pub newest : NewestBelow d.machine.checked k d.machine.live (length d.machine.live) i
  pub there : slice_get d.machine.live i ≡ Some (t, e)

-- one turn of a run back of branch k, which took part in no live step from index `below` on
abbrev pub RollsOne : ℕ → ℕ → List ℕ → List Watched → AtDesk → AtDesk → Rolled → List Choice → Type 0
RollsOne k below lines watched d d' (Rolled.On index) kept =
    TakesOneBack (Some k) lines watched d d' None kept × NoneFrom d' k index × (index < below)
RollsOne k below lines watched d d' (Rolled.Ended ended) kept =
    TakesOneBack (Some k) lines watched d d' (Some ended) kept

-- the step of this ticket is rolled back
abbrev pub RollsAll : AtDesk → ℕ → AtDesk → Type 0
RollsAll d t d' = (n : ℕ) × Answers d quiet (Command.Roll t) (Reply.Rolled n) d'

-- the step of this ticket, taken back
abbrev pub gone : AtDesk → ℕ → Event → AtDesk → Returned
gone d t e d' = record { ticket = t; event = e; from = d; left = d' }

-- the live step of this ticket is taken back, with all that depend on it
abbrev pub GoesOut : AtDesk → ℕ → AtDesk → Type 0
GoesOut d t d' = (e : Event) × LiveAt d.machine.live t e
    × (IsUndone (gone d t e d') ⊎ IsRolled (gone d t e d'))
