-- The first event of a list that has a choice.
-- No reader has to believe it: the proofs of `event_with` tie it to `Chosen` of `runs`.
use Rattle.std.specs.Prelude.{◌≡◌, ℕ, List, Some, take, slice_get}
use Rattle.syntax.specs.Lists.{In}
use Rattle.runs.specs.Choices.{choice_of}
use Rattle.runs.specs.declared.event.Event.{Event}
use Rattle.runs.specs.declared.event.Choice.{Choice}

-- no event of the list has the choice
abbrev pub HasNone : Choice → List Event → Type 0
HasNone c es = (e : Event) → In e es → choice_of e ≡ c → ⊥

-- the event at place i has the choice, and none before it
abbrev pub FirstWith : Choice → List Event → ℕ → Type 0
FirstWith c es i = (e : Event) × (slice_get es i ≡ Some e) × (choice_of e ≡ c) × HasNone c (take i es)
