-- What a step forth and a step back of a branch do to a desk.
use Rattle.std.specs.Prelude.{◌≡◌, ◌⊎◌, ℕ, ◌&&◌, ◌++◌, Bool, not, List, filter, length, Option, None, Some, slice_get}
use Rattle.system.specs.declared.system.System.{System}
use Rattle.system_places.specs.SystemBranches.{branch_at}
use Rattle.runs.specs.Choices.{choice_of}
use Rattle.runs.specs.Events.{acting}
use Rattle.runs.specs.Live.{Live}
use Rattle.runs.specs.declared.event.Event.{Event}
use Rattle.runs.specs.declared.command.Refusal.TheVariants.{Memory}
use Rattle.machine.specs.Branching.{is_branch}
use Rattle.locked_execution.specs.AtDesk.{AtDesk}
use Rattle.locked_execution.specs.Performs.{Answers}
use Rattle.locked_execution.specs.declared.command.Command.{Command}
use Rattle.locked_execution.specs.declared.command.Reply.{Reply}
use Rattle.dap_views.specs.Parts.{takes_part, NoneBelow, NewestBelow}
use Rattle.dap_moves.specs.declared.back.Back.{Back}

-- the session of an adapter
abbrev pub quiet : ℕ
quiet = 15

-- the step of an event is asked for, or there was no memory to ask for it
abbrev pub StepsAt : AtDesk → Event → Reply → AtDesk → Type 0
StepsAt d e reply d' =
    Answers d quiet (Command.Step (choice_of e)) reply d' ⊎ ((reply ≡ Reply.Refused Memory) × (d' ≡ d))

-- whether an event acts in branch k
abbrev pub acts : System → ℕ → Event → Bool
acts system k e = is_branch k (branch_at system (acting e))

-- whether branch k takes part in an event that acts in another
abbrev pub joins : System → ℕ → Event → Bool
joins system k e = takes_part system k e && not (acts system k e)

-- what a step of branch k can be: the events that act in it, and behind them the others in which it takes part
abbrev pub targets : System → ℕ → List Event → List Event
targets system k es = filter (acts system k) es ++ filter (joins system k) es

-- the ticket of the last of these live events in which branch k took part, where there is one
abbrev pub NewestOf : System → Live → ℕ → Option ℕ → Type 0
NewestOf system l k None = NoneBelow system k l (length l)
NewestOf system l k (Some t) =
    (i : ℕ) × (e : Event) × NewestBelow system k l (length l) i × (slice_get l i ≡ Some (t, e))

-- the same of all live events
abbrev pub NewestTicket : AtDesk → ℕ → Option ℕ → Type 0
NewestTicket d k t = NewestOf d.machine.checked d.machine.live k t

-- a step back of branch k: it took part in no live step; or the newest in which it did is asked to be undone
abbrev pub StepsBack : AtDesk → ℕ → Back → AtDesk → Type 0
StepsBack d k Back.AtBeginning d' = NewestTicket d k None × (d' ≡ d)
StepsBack d k (Back.Asked t reply) d' = NewestTicket d k (Some t) × Answers d quiet (Command.Undo t) reply d'
