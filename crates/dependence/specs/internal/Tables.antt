-- The tables of followers beside the live events, at the same indexes.
-- No reader has to believe it: contracts see a `Live` as `Shown`, which has no tables.
use Rattle.std.specs.Prelude.{◌≡◌, ◌⊎◌, ◌↔◌, ℕ, ◌<◌, List, [], ◌∷◌, ◌++◌, length, Some, slice_get, slice_set}
use Rattle.syntax.specs.Lists.{In}
use Rattle.runs.specs.InOrder.{InOrder}
use Rattle.runs.specs.Dependence.{Directly}
use Rattle.runs.specs.Live.{Live, Rising, LiveAt, DependsOn}
use Rattle.runs.specs.declared.event.Event.{Event}
use Rattle.dependence.specs.Followers.{Follower, ListsFollowers}
use Rattle.dependence.specs.declared.links.Links.{Links}

-- the tickets rise
abbrev pub IsRising : Live → Type 0
IsRising l = (next : ℕ) × Rising 0 l next

-- the event of ticket t stands at the index i
abbrev pub StandsAt : Live → ℕ → ℕ → Type 0
StandsAt l t i = (e : Event) × (slice_get l i ≡ Some (t, e))

-- the numbers fall
abbrev pub Falling : List ℕ → Type 0
Falling ts = InOrder (λ (a : ℕ) (b : ℕ). b < a) ts

-- the tickets of the followers of t, and n behind them where `more` holds
pub record ListsWith (l : Live) (n t : ℕ) (more : Type 0) (tickets : List ℕ) : Type 0 where
  pub exactly : (u : ℕ) → In u tickets ↔ (Follower l t u ⊎ ((u ≡ n) × more))
  pub ascending : InOrder ◌<◌ tickets

-- at each index the followers of the event, with n behind those for which P holds, and the events that it follows
pub record PartLinked (l : Live) (n : ℕ) (P : ℕ → Type 0) (links : List Links) : Type 0 where
  pub size : length links ≡ length l
  pub followers : (i t : ℕ) (e : Event) (m : Links) → slice_get l i ≡ Some (t, e) → slice_get links i ≡ Some m →
      ListsWith l n t (P t) m.followers.items
  pub leads : (i u : ℕ) (f : Event) (m : Links) → slice_get l i ≡ Some (u, f) → slice_get links i ≡ Some m → (t : ℕ) →
      In t m.leads.items ↔ Follower l t u
  pub falling : (i : ℕ) (m : Links) → slice_get links i ≡ Some m → Falling m.leads.items

-- at each index the followers of the event, ascending, and the events that it follows
pub record Linked (l : Live) (links : List Links) : Type 0 where
  pub size : length links ≡ length l
  pub followers : (i t : ℕ) (e : Event) (m : Links) → slice_get l i ≡ Some (t, e) → slice_get links i ≡ Some m →
      ListsFollowers l t m.followers.items
  pub leads : (i u : ℕ) (f : Event) (m : Links) → slice_get l i ≡ Some (u, f) → slice_get links i ≡ Some m → (t : ℕ) →
      In t m.leads.items ↔ Follower l t u
  pub falling : (i : ℕ) (m : Links) → slice_get links i ≡ Some m → Falling m.leads.items

-- the list `before` of the followers of t is changed to `after`, and nothing else
pub record FollowersChanged (l : Live) (t : ℕ) (change : List ℕ → List ℕ → Type 0) (old new : List Links) : Type 0 where
  pub index : ℕ
  pub event : Event
  pub before : Links
  pub after : Links
  pub stands : slice_get l index ≡ Some (t, event)
  pub was : slice_get old index ≡ Some before
  pub is : new ≡ slice_set old index after
  pub followers : change before.followers.items after.followers.items
  pub leads : after.leads.items ≡ before.leads.items

-- the list `after` has what `before` has, but for t
pub record Removed (t : ℕ) (before after : List ℕ) : Type 0 where
  pub exactly : (u : ℕ) → In u after ↔ (In u before × (u ≡ t → ⊥))
  pub ascending : InOrder ◌<◌ after

-- among the live tickets of cs are all that a new event f follows, and of each other on which it depends directly a
-- dependent
pub record Candidates (l : Live) (f : Event) (cs : List ℕ) : Type 0 where
  pub sound : (t : ℕ) → In t cs → (e : Event) × LiveAt l t e × Directly e f
  pub complete : (t : ℕ) (e : Event) → LiveAt l t e → Directly e f → (c : ℕ) × In c cs × DependsOn l t c

-- t is one of cs, and no other of them depends on it
abbrev pub Topmost : Live → List ℕ → ℕ → Type 0
Topmost l cs t = In t cs × ((c : ℕ) → In c cs → DependsOn l t c → c ≡ t)

-- one of cs depends on t
abbrev pub LeadsBack : Live → List ℕ → ℕ → Type 0
LeadsBack l cs t = (c : ℕ) × In c cs × DependsOn l t c

-- exactly the tickets of the events of l that depend directly on e, ascending
pub record DirectAmong (e : Event) (l : Live) (tickets : List ℕ) : Type 0 where
  pub exactly : (u : ℕ) → In u tickets ↔ ((f : Event) × LiveAt l u f × Directly e f)
  pub ascending : InOrder ◌<◌ tickets

-- n events of l depend directly on e
abbrev pub CountsAmong : Event → Live → ℕ → Type 0
CountsAmong e l n = (tickets : List ℕ) × DirectAmong e l tickets × (length tickets ≡ n)

-- the tables with those of a new event of ticket n behind, which follows those that are kept
pub record LinkedBehind (l : Live) (n : ℕ) (kept : List ℕ) (links : List Links) : Type 0 where
  pub before : List Links
  pub last : Links
  pub is : links ≡ before ++ last ∷ []
  pub linked : PartLinked l n (λ t. In t kept) before
  pub followers : last.followers.items ≡ []
  pub leads : last.leads.items ≡ kept
