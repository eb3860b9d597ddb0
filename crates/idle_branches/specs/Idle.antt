-- Branches that have no step.
use Rattle.std.specs.Prelude.{◌≡◌, ℕ, List, Option, None, Some}
use Rattle.address.specs.Places.{Before}
use Rattle.syntax.specs.Lists.{In}
use Rattle.system.specs.declared.system.System.{System}
use Rattle.system_places.specs.SystemBranches.{branch_at}
use Rattle.runs.specs.Moves.{Place}
use Rattle.runs.specs.Events.{acting, places}
use Rattle.runs.specs.Steps.{State, Run, Step, Allowed, opening}
use Rattle.runs.specs.declared.event.Event.{Event}
use Rattle.local_actions.specs.Actions.{Offered}
use Rattle.local_actions.specs.declared.action.ActionKind.{ActionKind}
use Rattle.local_actions.specs.declared.action.ActionKind.TheVariants.{Sends, Syncs, Releases}
use Rattle.local_actions.specs.declared.action.LocalAction.{LocalAction}
use Rattle.idle_branches.specs.declared.ends.Ends.{Ends}
use Rattle.idle_branches.specs.internal.Known.{ActsOn, FitEach, GivesOn, KnowsGivers, known_at, parts}

-- no event that is allowed in S acts in branch k
abbrev pub IdleIn : System → State → ℕ → Type 0
IdleIn system S k = (x : Event) → Allowed S x → branch_at system (acting x) ≡ Some k → ⊥

-- a place of the event lies in branch k
abbrev pub TakesPart : System → Event → ℕ → Type 0
TakesPart system e k = (a : Place) × In a (places e) × (branch_at system a ≡ Some k)

-- the channel at whose other side the action is, where it does not act on it alone: it sends, makes a handshake without
-- data, or waits for the close
abbrev pub given_on : ActionKind → Option ℕ
given_on (Sends c v read) = Some c
given_on (Syncs c) = Some c
given_on (Releases c) = Some c
given_on _ = None

-- behind the event, which led to T, this is offered: it comes behind a place of the event in a sequence
abbrev pub OffersBehind : State → Event → LocalAction → Type 0
OffersBehind T e x = Offered T x × ((a : Place) × In a (places e) × Before a x.place)

-- and it is at the other side of a channel on which branch k acts
abbrev pub Faces : Ends → State → Event → ℕ → Type 0
Faces ends T e k =
    (x : LocalAction) × (c : ℕ) × OffersBehind T e x × (given_on x.action ≡ Some c) × ActsOn ends.used.acting.items c k

-- among these is all that the state offers behind the place
abbrev pub HasBehind : State → Place → List LocalAction → Type 0
HasBehind S a found = (x : LocalAction) → Offered S x → Before a x.place → In x found

-- the event, which led to T, cannot have brought branch k a step
pub record Passes (system : System) (ends : Ends) (T : State) (e : Event) (k : ℕ) : Type 0 where
  pub apart : TakesPart system e k → ⊥
  pub faces_none : Faces ends T e k → ⊥

-- all channels on which the branches act or give are known, and all who may give on each
pub record AreEnds (system : System) (ends : Ends) : Type 0 where
  pub fit : FitEach (known_at ends.used.acting.items ends.used.giving.items) 0 (parts system)
  pub givers : KnowsGivers ends.givers.items ends.used.giving.items

-- a branch that has no step has none behind an event that cannot bring it one; that the event writes a variable brings
-- none, since a test has a step whatever comes out
abbrev pub StaysIdle : Type 0
StaysIdle =
    (system : System) (ends : Ends) (h : List Event) (S T : State) (e : Event) (k : ℕ) → AreEnds system ends →
    Run (opening system) h S → Step S e T → Passes system ends T e k → IdleIn system S k → IdleIn system T k

-- what a branch offers behind a place, at the other side of a channel, is on a channel on which it gives
abbrev pub GivesWhatIsKnown : Type 0
GivesWhatIsKnown =
    (system : System) (ends : Ends) (h : List Event) (S : State) (a : Place) (x : LocalAction) (k c : ℕ) →
    AreEnds system ends → Run (opening system) h S → Offered S x → Before a x.place → branch_at system a ≡ Some k →
    given_on x.action ≡ Some c → GivesOn ends.used.giving.items k c
