-- The live events of an execution, with their tickets.
use Rattle.std.specs.Prelude.{◌≡◌, ◌≢◌, ◌↔◌, ℕ, suc, ◌<◌, ◌≤◌, List, [], ◌∷◌, Some}
use Rattle.syntax.specs.Lists.{In}
use Rattle.runs.specs.Dependence.{Directly, Without}
use Rattle.runs.specs.InOrder.{InOrder}
use Rattle.runs.specs.declared.event.Event.{Event}

-- events with their tickets, in order of tickets
abbrev pub Live : Type 0
Live = List (ℕ × Event)

-- the events without their tickets
abbrev pub events : Live → List Event
events [] = []
events (x ∷ l) = x.1 ∷ events l

-- the tickets rise, from `low` on and to below `next`
abbrev pub Rising : ℕ → Live → ℕ → Type 0
Rising low [] next = low ≤ next
Rising low (x ∷ l) next = (low ≤ x.0) × Rising (suc x.0) l next

-- e is live under the ticket t
abbrev pub LiveAt : Live → ℕ → Event → Type 0
LiveAt l t e = In (t, e) l

-- the ticket t is that of a live event
abbrev pub IsLive : Live → ℕ → Type 0
IsLive l t = (e : Event) × LiveAt l t e

-- no live event has the ticket t
abbrev pub NoneAt : Live → ℕ → Type 0
NoneAt l t = (e : Event) → LiveAt l t e → ⊥

-- the live event of ticket u depends on that of ticket t: it is the same, or one of greater ticket that depends
-- directly on one that depends on it
pub data DependsOn (l : Live) (t : ℕ) : ℕ → Type 0 where
  same : DependsOn l t t
  later : {u v : ℕ} (e f : Event) → DependsOn l t u → LiveAt l u e → LiveAt l v f → u < v → Directly e f →
      DependsOn l t v

-- k is l without the events of whose tickets D holds
abbrev pub WithoutTickets : (ℕ → Type 0) → Live → Live → Type 0
WithoutTickets D l k = Without (λ (x : ℕ × Event). D x.0) l k

-- u is the least ticket of another live event that depends on that of ticket t
pub record FirstDependent (l : Live) (t u : ℕ) : Type 0 where
  pub event : Event
  pub live : LiveAt l u event
  pub other : u ≢ t
  pub depends : DependsOn l t u
  pub least : (v : ℕ) (f : Event) → LiveAt l v f → v ≢ t → DependsOn l t v → u ≤ v

-- no other live event depends on that of ticket t
abbrev pub NoDependent : Live → ℕ → Type 0
NoDependent l t = (u : ℕ) (f : Event) → LiveAt l u f → DependsOn l t u → u ≡ t

-- t is the greatest ticket of a live event that writes the variable x
pub record LastWriter (l : Live) (x t : ℕ) : Type 0 where
  pub event : Event
  pub live : LiveAt l t event
  pub writes : event.written ≡ Some x
  pub last : (u : ℕ) (f : Event) → LiveAt l u f → f.written ≡ Some x → u ≤ t

-- no live event writes the variable x
abbrev pub NoWriter : Live → ℕ → Type 0
NoWriter l x = (u : ℕ) (f : Event) → LiveAt l u f → f.written ≡ Some x → ⊥

-- exactly the tickets of the live events that depend on that of ticket t, ascending
pub record ConsequencesList (l : Live) (t : ℕ) (tickets : List ℕ) : Type 0 where
  pub exactly : (u : ℕ) → In u tickets ↔ ((f : Event) × LiveAt l u f × DependsOn l t u)
  pub ascending : InOrder ◌<◌ tickets
