-- What follows from the contracts of moves.
use Rattle.std.specs.Prelude.{◌≡◌, ℕ, ◌<◌, ◌≤◌, List, Option, length}
use Rattle.runs.specs.Live.{FirstDependent, NoDependent}
use Rattle.runs.specs.Object.{most_live}
use Rattle.runs.specs.Sound.{Sound}
use Rattle.runs.specs.declared.event.Choice.{Choice}
use Rattle.runs.specs.declared.event.Event.{Event}
use Rattle.runs.specs.declared.command.Refusal.{Refusal}
use Rattle.runs.specs.declared.command.Refusal.TheVariants.{NeededBy}
use Rattle.machine.specs.Headline.{Headline}
use Rattle.locked_execution.specs.AtDesk.{AtDesk, execution}
use Rattle.locked_execution.specs.GoingBack.{DependentsGoAlong}
use Rattle.locked_execution.specs.Performs.{Answers}
use Rattle.locked_execution.specs.declared.command.Command.{Command}
use Rattle.locked_execution.specs.declared.command.Reply.{Reply}
use Rattle.dap_moves.specs.Led.{Led}
use Rattle.dap_moves.specs.Moves.{StepsBack}
use Rattle.dap_moves.specs.Passing.{Turned, Turns}
use Rattle.dap_moves.specs.declared.back.Back.{Back}

-- no command leaves a desk as it is
abbrev pub LedNowhere : Type 0
LedNowhere = (d : AtDesk) → Led d d

-- commands, and then others
abbrev pub LedOn : Type 0
LedOn = (d m d' : AtDesk) → Led d m → Led m d' → Led d d'

-- one command
abbrev pub LedByOne : Type 0
LedByOne =
    (d d' : AtDesk) (session : ℕ) (command : Command) (reply : Reply) → session < 16 →
    Answers d session command reply d' → Led d d'

-- what holds after any commands on a sound execution
abbrev pub KeepsHeadline : Type 0
KeepsHeadline = (d d' : AtDesk) → Sound (execution d) → Led d d' → Headline (execution d')

-- what depends on a step goes with it
abbrev pub LosesNothingElse : Type 0
LosesNothingElse = (d d' : AtDesk) → Sound (execution d) → Led d d' → DependentsGoAlong (execution d) (execution d')

-- a step back that is refused names the first step that depends on the newest of the branch, and leaves all as it was
abbrev pub RefusedBack : Type 0
RefusedBack = (d d' : AtDesk) (k t : ℕ) (why : Refusal) → StepsBack d k (Back.Asked t (Reply.Refused why)) d' →
    (u : ℕ) × (why ≡ NeededBy u) × FirstDependent d.machine.live t u × (d' ≡ d)

-- one that is done took a step back on which no other depended
abbrev pub BackWhereAlone : Type 0
BackWhereAlone = (d d' : AtDesk) (k t u : ℕ) (e : Event) → StepsBack d k (Back.Asked t (Reply.Undone u e)) d' →
    (u ≡ t) × NoDependent d.machine.live t

-- a run takes no more steps than may be live
abbrev pub FewTurns : Type 0
FewTurns = (d d' : AtDesk) (only : Option ℕ) (turn behind : ℕ) (lines : List ℕ) (seen : List Choice)
    (turns : List Turned) → Turns d only turn lines seen turns d' behind → length turns ≤ most_live
