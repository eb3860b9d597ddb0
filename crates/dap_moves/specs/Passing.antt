-- What a run may pass, before what it stops, and whose turn it is.
use Rattle.std.specs.Prelude.{◌≡◌, ◌⊎◌, ℕ, ◌+◌, ◌-◌, ◌<◌, List, [], ◌∷◌, Bool, true, false, nat_lt, if◌then◌else◌, Option, None, Some, slice_get, unwrap_or}
use Rattle.syntax.specs.Lists.{In}
use Rattle.system.specs.Expression.{is_in}
use Rattle.system_places.specs.SystemBranches.{branch_at, branch_count}
use Rattle.runs.specs.Choices.{choice_of}
use Rattle.runs.specs.Live.{events}
use Rattle.runs.specs.Moves.{Place}
use Rattle.runs.specs.Object.{Reaches}
use Rattle.runs.specs.Ready.{ReadyList}
use Rattle.runs.specs.Steps.{State}
use Rattle.runs.specs.declared.event.Choice.{Choice}
use Rattle.runs.specs.declared.event.Event.{Event}
use Rattle.dependence.specs.EventPlaces.{line_after}
use Rattle.machine.specs.AtMachine.{AtMachine}
use Rattle.machine.specs.Branching.{in_branch}
use Rattle.locked_execution.specs.AtDesk.{AtDesk, execution}
use Rattle.locked_execution.specs.Performs.{Answers}
use Rattle.locked_execution.specs.declared.command.Command.{Command}
use Rattle.locked_execution.specs.declared.command.Reply.{Reply}
use Rattle.dap_moves.specs.Moves.{quiet}

-- whether a line is among these
abbrev pub has_line : List ℕ → Option ℕ → Bool
has_line lines None = false
has_line lines (Some line) = is_in line lines

-- whether the command at a place is on one of the lines, after the live events
abbrev pub stands_on : AtMachine → List ℕ → Place → Bool
stands_on m lines a = has_line lines (line_after (events m.live) m.checked a)

-- no action of the event is on one of the lines
pub record PassesBy (m : AtMachine) (lines : List ℕ) (e : Event) : Type 0 where
  pub first : stands_on m lines e.first ≡ false
  pub second : (a : Place) → e.second ≡ Some a → stands_on m lines a ≡ false

-- the command at a place in this branch is on this line, which is one of these
abbrev pub IsAtLine : AtMachine → List ℕ → Place → ℕ → ℕ → Type 0
IsAtLine m lines a branch line =
    (line_after (events m.live) m.checked a ≡ Some line) × (is_in line lines ≡ true)
    × (branch ≡ unwrap_or (branch_at m.checked a) 0)

-- an action of the event in this branch is on this line, which is one of these
pub record StopsAt (m : AtMachine) (lines : List ℕ) (e : Event) (branch line : ℕ) : Type 0 where
  pub place : Place
  pub action : (place ≡ e.first) ⊎ (e.second ≡ Some place)
  pub there : IsAtLine m lines place branch line

-- the branches that may step: all, or this one
abbrev pub MayStep : AtDesk → Option ℕ → ℕ → Type 0
MayStep d None k = k < branch_count d.machine.checked
MayStep d (Some only) k = k ≡ only

-- branch k is the one that steps alone, if one does
abbrev pub MayGo : Option ℕ → ℕ → Type 0
MayGo None k = Unit {0}
MayGo (Some only) k = k ≡ only

-- no step of branch k is ready
abbrev pub IsIdle : AtDesk → ℕ → Type 0
IsIdle d k =
    (T : State) × (es : List Event) × Reaches (execution d) T × ReadyList T es × (in_branch d.machine k es ≡ [])

-- how many turns branch k is behind the one whose turn it is, of so many
abbrev pub turns_to : ℕ → ℕ → ℕ → ℕ
turns_to count turn k = if nat_lt k turn then (k + count) - turn else k - turn

-- whose turn it is behind a step of branch k, of so many: that of the next, and behind the last that of the first
abbrev pub turn_behind : ℕ → ℕ → ℕ
turn_behind count k = if nat_lt (k + 1) count then k + 1 else 0

-- where it is the turn of branch `turn`, none that may step has a step and comes before branch k
abbrev pub NoneSooner : AtDesk → Option ℕ → ℕ → ℕ → Type 0
NoneSooner d only turn k =
    (j : ℕ) → MayStep d only j →
    turns_to (branch_count d.machine.checked) turn j < turns_to (branch_count d.machine.checked) turn k → IsIdle d j

-- where it is the turn of branch `turn`, the next step is this one of branch k: of those that are ready, the first that
-- acts there; and of the branches that may step none that has a step comes before
pub record IsNext (d : AtDesk) (only : Option ℕ) (turn k : ℕ) (e : Event) : Type 0 where
  pub state : State
  pub ready : List Event
  pub reaches : Reaches (execution d) state
  pub listed : ReadyList state ready
  pub first : slice_get (in_branch d.machine k ready) 0 ≡ Some e
  pub may : MayGo only k
  pub sooner : NoneSooner d only turn k

-- what a run that stops at these lines may ask of branch k, of all or where one steps alone: the next step, if that
-- passes by them or it has stood before that already; and any step of the next branch that has one where there is no
-- line
abbrev pub MayAsk : AtDesk → Option ℕ → ℕ → ℕ → List ℕ → List Choice → Command → Type 0
MayAsk d only turn k lines seen (Command.Step c) =
    (e : Event) × IsNext d only turn k e × (c ≡ choice_of e) × (PassesBy d.machine lines e ⊎ In c seen)
MayAsk d only turn k lines seen (Command.Branch j) =
    (j ≡ k) × (lines ≡ []) × MayGo only k × NoneSooner d only turn k
MayAsk d only turn k lines seen _ = ⊥

-- a step that a run took, of which branch, and what it left
pub record Turned : Type 0 where
  pub ticket : ℕ
  pub event : Event
  pub branch : ℕ
  pub left : AtDesk

-- it took one that it may ask for
abbrev pub TakesTurn : AtDesk → Option ℕ → ℕ → List ℕ → List Choice → Turned → Type 0
TakesTurn d only turn lines seen t =
    (command : Command) × MayAsk d only turn t.branch lines seen command
    × Answers d quiet command (Reply.Stepped t.ticket t.event) t.left

-- the steps of a run in turn, one after another, and whose turn it is behind them; where it stood when it began counts
-- for the first alone
abbrev pub Turns : AtDesk → Option ℕ → ℕ → List ℕ → List Choice → List Turned → AtDesk → ℕ → Type 0
Turns d only turn lines seen [] d' behind = (d' ≡ d) × (behind ≡ turn)
Turns d only turn lines seen (t ∷ ts) d' behind =
    TakesTurn d only turn lines seen t
    × Turns t.left only (turn_behind (branch_count d.machine.checked) t.branch) lines [] ts d' behind
