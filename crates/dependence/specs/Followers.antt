-- Who needs whom among the live events: the direct dependents of an event, and those of them with no live event
-- between.
use Rattle.std.specs.Prelude.{◌≡◌, ◌⊎◌, ◌↔◌, ℕ, ◌<◌, List, length}
use Rattle.syntax.specs.Lists.{In}
use Rattle.runs.specs.Dependence.{Directly}
use Rattle.runs.specs.InOrder.{InOrder}
use Rattle.runs.specs.Live.{Live, LiveAt, DependsOn}
use Rattle.runs.specs.declared.event.Event.{Event}

-- the live event of ticket u is later than that of ticket t, and depends directly on it
pub record DirectDependent (l : Live) (t u : ℕ) : Type 0 where
  pub event : Event
  pub dependent : Event
  pub live : LiveAt l t event
  pub dependent_live : LiveAt l u dependent
  pub less : t < u
  pub direct : Directly event dependent

-- u follows t: it is a direct dependent, and no other live event that depends on t has u among those that depend on it
pub record Follower (l : Live) (t u : ℕ) : Type 0 where
  pub dependent : DirectDependent l t u
  pub next : (v : ℕ) → DependsOn l t v → DependsOn l v u → (v ≡ t) ⊎ (v ≡ u)

-- u is t, or follows one that is reached from t
pub data Reached (l : Live) (t : ℕ) : ℕ → Type 0 where
  here : Reached l t t
  along : {u v : ℕ} → Reached l t u → Follower l u v → Reached l t v

-- exactly the tickets of the followers, ascending
pub record ListsFollowers (l : Live) (t : ℕ) (tickets : List ℕ) : Type 0 where
  pub exactly : (u : ℕ) → In u tickets ↔ Follower l t u
  pub ascending : InOrder ◌<◌ tickets

-- exactly the tickets of the events that that of ticket u follows, falling
pub record ListsLeads (l : Live) (u : ℕ) (tickets : List ℕ) : Type 0 where
  pub exactly : (t : ℕ) → In t tickets ↔ Follower l t u
  pub falling : InOrder (λ (a : ℕ) (b : ℕ). b < a) tickets

-- exactly the tickets of the direct dependents, ascending
pub record ListsDirect (l : Live) (t : ℕ) (tickets : List ℕ) : Type 0 where
  pub exactly : (u : ℕ) → In u tickets ↔ DirectDependent l t u
  pub ascending : InOrder ◌<◌ tickets

-- n live events depend directly on that of ticket t
abbrev pub CountsDirect : Live → ℕ → ℕ → Type 0
CountsDirect l t n = (tickets : List ℕ) × ListsDirect l t tickets × (length tickets ≡ n)
