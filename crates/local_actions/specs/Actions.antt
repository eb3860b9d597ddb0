-- What a place of a state offers, with its values: one action of an event.
use Rattle.std.specs.Prelude.{◌≡◌, ◌⊎◌, ◌↔◌, ℕ, ◌<◌, List, ◌++◌}
use Rattle.std.specs.declared.cmp.Ordering.TheVariants.{Less, Greater}
use Rattle.address.specs.Order.{order_of}
use Rattle.system.specs.Expression.{Store, variables, decision_variables, decide, ascending}
use Rattle.syntax.specs.Lists.{In}
use Rattle.system.specs.Residual.{Residual}
use Rattle.runs.specs.Moves.{Place, Move, Local, assigns, tests, turns, sends, receives, syncs, opens, releases, closes}
use Rattle.runs.specs.Events.{sent}
use Rattle.runs.specs.Steps.{State}
use Rattle.runs.specs.WellFormed.{WellFormed}
use Rattle.local_actions.specs.declared.action.LocalAction.{LocalAction}
use Rattle.local_actions.specs.declared.action.ActionKind.{ActionKind}
use Rattle.local_actions.specs.declared.action.ActionKind.TheVariants.{Assigns, Tests, Turns, Sends, Receives, Syncs, Opens, Releases, Closes}

-- a move with its values over the store; whether it is held, and what is received, is the other action's matter
abbrev pub action_of : Store → Move → ActionKind
action_of s (assigns x w e) = Assigns x (sent s w e) (ascending (variables e))
action_of s (tests d k) = Tests k (ascending (decision_variables d))
action_of s turns = Turns
action_of s (sends c w e held) = Sends c (sent s w e) (ascending (variables e))
action_of s (receives c x) = Receives c x
action_of s (syncs c held) = Syncs c
action_of s (opens c k v) = Opens c k
action_of s (releases c) = Releases c
action_of s (closes c) = Closes c

-- a test takes the arm that it decides on
abbrev pub Decided : Store → Move → Type 0
Decided s (tests d k) = decide s d ≡ k
Decided s m = Unit {0}

-- the state offers this action at the place: a local move is possible there, which is that action
pub record Offered (S : State) (x : LocalAction) : Type 0 where
  pub move : Move
  pub after : Residual
  pub possible : Local S.residual x.place move after
  pub decided : Decided S.store move
  pub shown : x.action ≡ action_of S.store move

-- the place a is p or below it
abbrev pub Under : Place → Place → Type 0
Under p a = (rest : Place) × (a ≡ p ++ rest)

-- the place of x is not behind that of y in the order of addresses
abbrev pub NotBehind : LocalAction → LocalAction → Type 0
NotBehind x y = order_of x.place y.place ≡ Greater → ⊥

-- the arm that opens, and 0 of what opens none
abbrev pub opened_arm : ActionKind → ℕ
opened_arm (Opens c k) = k
opened_arm action = 0

-- x stands before y: at a lesser place, or at the same one with a lesser arm; so none precedes itself, and in a list in
-- this order each stands once
abbrev pub Precedes : LocalAction → LocalAction → Type 0
Precedes x y =
    (order_of x.place y.place ≡ Less) ⊎ ((x.place ≡ y.place) × (opened_arm x.action < opened_arm y.action))

-- the state is one of runs, as far as its places go, and offers exactly these actions
pub record OffersExactly (S : State) (actions : List LocalAction) : Type 0 where
  pub formed : WellFormed S.residual
  pub exactly : (x : LocalAction) → In x actions ↔ Offered S x
