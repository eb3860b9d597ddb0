-- The step of an event of one action, and of one of two, from what the actions are asked.
-- No reader has to believe it: the proofs of `step` tie it to `step_of`, and those to `Step` of `Steps.antt`.
use Rattle.std.specs.Prelude.{cond, Option, None}
use Rattle.std.specs.Option.{option_and_then}
use Rattle.runs.specs.Moves.{Place}
use Rattle.runs.specs.Steps.{State}
use Rattle.runs.specs.internal.After.{after}
use Rattle.runs.specs.declared.ask.Ask.{Ask}
use Rattle.runs.specs.internal.Made.{made_alone, made_together}
use Rattle.runs.specs.internal.StepOf.{agreed}
use Rattle.runs.specs.internal.Below.{apart}
use Rattle.runs.specs.declared.event.Event.{Event}

-- the state after an event of one action
abbrev pub alone : State → Event → Ask → Option State
alone S e k = option_and_then (λ x. agreed S e x.1 (made_alone S.store e.first x.0)) (after k S.residual e.first)

-- the state after an event of two actions, where the second place is b
abbrev pub together_at : State → Event → Ask → Ask → Place → Option State
together_at S e k j b =
    option_and_then
    (λ x. option_and_then (λ y.
    agreed S e y.1 (cond (apart e.first b) (made_together S.store e.first x.0 b y.0) None)) (after j x.1 b))
    (after k S.residual e.first)

-- the state after an event of two actions; none where the second place is missing
abbrev pub together : State → Event → Ask → Ask → Option State
together S e k j = option_and_then (together_at S e k j) e.second
