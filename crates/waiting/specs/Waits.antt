-- Who waits. (Own: a place that could go on if another came to it.)
use Rattle.std.specs.Prelude.{◌≡◌, ◌↔◌, ◌<◌, ℕ, List, [], ◌∷◌, Option, None, Some}
use Rattle.syntax.specs.Lists.{In}
use Rattle.runs.specs.InOrder.{InOrder}
use Rattle.runs.specs.Events.{places}
use Rattle.runs.specs.Steps.{State, Allowed}
use Rattle.runs.specs.declared.event.Event.{Event}
use Rattle.local_actions.specs.Actions.{Offered, NotBehind}
use Rattle.local_actions.specs.declared.action.LocalAction.{LocalAction}
use Rattle.local_actions.specs.declared.action.ActionKind.{ActionKind}
use Rattle.local_actions.specs.declared.action.ActionKind.TheVariants.{Opens}

-- the action x waits in S: it is offered, and no allowed event has its place
pub record Waits (S : State) (x : LocalAction) : Type 0 where
  pub offered : Offered S x
  pub alone : (e : Event) → Allowed S e → In x.place (places e) → ⊥

-- the arm that an action opens, if it opens one
abbrev pub arm_of : ActionKind → Option ℕ
arm_of (Opens c k) = Some k
arm_of _ = None

-- no two stand at one place, but for different arms of one choice
abbrev pub NoTwoAlike : List LocalAction → Type 0
NoTwoAlike [] = Unit {0}
NoTwoAlike (x ∷ xs) =
    ((y : LocalAction) → In y xs → y.place ≡ x.place → arm_of y.action ≡ arm_of x.action → ⊥) × NoTwoAlike xs

-- the one comes before the other; what opens no arm before all arms
abbrev pub ArmBefore : Option ℕ → Option ℕ → Type 0
ArmBefore None None = ⊥
ArmBefore None (Some k) = Unit {0}
ArmBefore (Some j) None = ⊥
ArmBefore (Some j) (Some k) = j < k

-- of two at one place the arm of x comes before that of y
abbrev pub ArmsRise : LocalAction → LocalAction → Type 0
ArmsRise x y = x.place ≡ y.place → ArmBefore (arm_of x.action) (arm_of y.action)

-- exactly the actions that wait, each once, in order of place, the arms of a choice in theirs: so there is one such list
pub record ListsWaiting (S : State) (actions : List LocalAction) : Type 0 where
  pub exactly : (x : LocalAction) → In x actions ↔ Waits S x
  pub in_order : InOrder NotBehind actions
  pub arms : InOrder ArmsRise actions
  pub once : NoTwoAlike actions

-- there is one such list
abbrev pub OneList : Type 0
OneList = (S : State) (xs ys : List LocalAction) → ListsWaiting S xs → ListsWaiting S ys → xs ≡ ys
