-- The events behind an answer, and what it is.
use Rattle.std.specs.Prelude.{ℕ, ◌≡◌, ◌⊎◌, List, [], ◌∷◌, ◌++◌, true, Option, Some, String, string_bytes}
use Rattle.std.specs.Option.{option_map}
use Rattle.std.specs.declared.alloc.Global.{Global}
use Rattle.serde_json.specs.Data.{Data}
use Rattle.serde_json.specs.View.{view}
use Rattle.dap_messages.specs.declared.answer.Answer.{Answer}
use Rattle.dap_messages.specs.declared.answer.Effect.{Effect}
use Rattle.dap_messages.specs.declared.answer.Note.{Note}
use Rattle.dap_messages.specs.declared.answer.Outcome.{Outcome}
use Rattle.dap_messages.specs.declared.told.Told.{Told}

-- which events these are
abbrev pub told_by : List Note → List Told
told_by [] = []
told_by (note ∷ notes) = note.told ∷ told_by notes

-- what stays where this event is told too: without these three a client would wait for ever
abbrev pub effect_with : Effect → Told → Effect
effect_with effect Told.Initialized = Effect.Due Told.Initialized
effect_with effect (Told.Stopped stop) = Effect.Due (Told.Stopped stop)
effect_with effect Told.Terminated = Effect.Due Told.Terminated
effect_with effect Told.Output = effect
effect_with effect Told.Exited = effect
effect_with effect Told.Breakpoint = effect

-- behind these events there is this one with this body, if it has one
abbrev pub IsBehind : List Note → Told → Option Data → List Note → Type 0
IsBehind before told body after =
    (note : Note) × (note.told ≡ told) × (option_map view note.body ≡ body) × (after ≡ before ++ note ∷ [])

-- one event more, with this body if it has one, or no memory for it; either way it is kept in mind where it has to come
pub record Adds (a : Answer) (told : Told) (body : Option Data) (b : Answer) : Type 0 where
  pub events : (IsBehind a.notes.items told body b.notes.items × (b.lacks ≡ a.lacks))
      ⊎ ((b.notes.items ≡ a.notes.items) × (b.lacks ≡ true))
  pub outcome : b.outcome ≡ a.outcome
  pub effect : b.effect ≡ effect_with a.effect told

-- the response is a refusal, for the reason of this number, in these words if there was memory for them
abbrev pub Refuses : Answer → ℕ → List ℕ → Answer → Type 0
Refuses a number words b =
    (said : String Global) × (b.outcome ≡ Outcome.Refused number said)
    × (((string_bytes said ≡ words) × (b.lacks ≡ a.lacks)) ⊎ (b.lacks ≡ true))

-- whether a request is refused
abbrev pub IsRefusal : Outcome → Type 0
IsRefusal (Outcome.Done body) = ⊥
IsRefusal (Outcome.Refused number words) = Unit {0}

-- or done
abbrev pub IsDone : Outcome → Type 0
IsDone (Outcome.Done body) = Unit {0}
IsDone (Outcome.Refused number words) = ⊥

-- with this body
abbrev pub IsDoneWith : Data → Outcome → Type 0
IsDoneWith d (Outcome.Done (Some body)) = view body ≡ d
IsDoneWith d _ = ⊥
