-- What the rule on sharing gives to a run.
use Rattle.std.specs.Prelude.{◌≡◌, List}
use Rattle.system.specs.declared.system.System.{System}
use Rattle.sharing_rule.specs.Rule.{is_shared}
use Rattle.runs.specs.Choices.{choice_of}
use Rattle.runs.specs.Dependence.{SomeBefore, Earlier}
use Rattle.runs.specs.Related.{Related}
use Rattle.runs.specs.Steps.{State, Allowed}
use Rattle.runs.specs.declared.event.Event.{Event}

-- of two events on one channel, or on one variable that is not shared and that one of them writes, the earlier has an
-- address before an address of the later
abbrev pub RelatedInOrder : System → List Event → Type 0
RelatedInOrder system h = (e f : Event) → Earlier h e f → Related (is_shared system) e f → SomeBefore e f

-- no two events that are allowed in the state have one choice
abbrev pub OneForEachChoice : State → Type 0
OneForEachChoice S = (e f : Event) → Allowed S e → Allowed S f → choice_of e ≡ choice_of f → e ≡ f
