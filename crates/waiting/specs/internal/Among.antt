-- What the code goes through to tell who waits.
-- No reader has to believe it: the contract of `who_waits` ties it to `Waits` and `StandsLike`.
use Rattle.std.specs.Prelude.{List, [], ◌∷◌, Bool, true, false, ◌||◌, cond, Option, None, Some}
use Rattle.runs.specs.Moves.{Place}
use Rattle.runs.specs.Tests.{same_place}
use Rattle.runs.specs.declared.event.Event.{Event}
use Rattle.local_actions.specs.declared.action.LocalAction.{LocalAction}
use Rattle.waiting.specs.declared.progress.Progress.{Progress}
use Rattle.waiting.specs.declared.progress.Progress.TheVariants.{GoesOn, Done, Stuck}

-- whether the place is the second of an event
abbrev pub is_second : Place → Option Place → Bool
is_second a None = false
is_second a (Some b) = same_place a b

-- whether an event has the place
abbrev pub has_place : Place → Event → Bool
has_place a e = same_place a e.first || is_second a e.second

-- whether one of the events has the place
abbrev pub has_any : Place → List Event → Bool
has_any a [] = false
has_any a (e ∷ es) = has_place a e || has_any a es

-- the actions whose place does not pass a test
abbrev pub left_by : (Place → Bool) → List LocalAction → List LocalAction
left_by test [] = []
left_by test (x ∷ xs) = cond (test x.place) (left_by test xs) (x ∷ left_by test xs)

-- the actions whose place none of the events has
abbrev pub left_over : List Event → List LocalAction → List LocalAction
left_over es [] = []
left_over es (x ∷ xs) = cond (has_any x.place es) (left_over es xs) (x ∷ left_over es xs)

-- how a run stands where no event is allowed, from whether the body is over
abbrev pub at_rest : Bool → Progress
at_rest true = Done
at_rest false = Stuck

-- the same, where these events are allowed
abbrev pub progress_of : Bool → List Event → Progress
progress_of over (e ∷ es) = GoesOn
progress_of over [] = at_rest over
