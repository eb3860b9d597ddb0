-- What is seen of what processes offer, and which branch they are.
-- No reader has to believe it: what it leads to is `Glance.antt`.
use Rattle.std.specs.Prelude.{◌≡◌, ℕ, zero, suc, ◌+◌, List, [], ◌∷◌, Bool, false, Option, None, Some}
use Rattle.address.specs.declared.Entry.TheVariants.{Ordered, Branch}
use Rattle.syntax.specs.Lists.{In, Every}
use Rattle.system.specs.Expression.{Store}
use Rattle.system.specs.declared.command.Command.{Command}
use Rattle.system.specs.declared.system.System.{System}
use Rattle.system_places.specs.SystemBranches.{branches_of, parallel_of}
use Rattle.runs.specs.Moves.{Place}
use Rattle.runs.specs.Steps.{State}
use Rattle.process_tree.specs.Proc.{Proc, Procs}
use Rattle.process_tree.specs.Remaining.{Received}
use Rattle.local_actions.specs.Actions.{Offered}
use Rattle.local_actions.specs.internal.Listed.{listed, listed_parallel}
use Rattle.local_actions.specs.declared.action.ActionKind.{ActionKind}
use Rattle.local_actions.specs.declared.action.ActionKind.TheVariants.{Sends, Receives, Opens, Releases, Closes}
use Rattle.local_actions.specs.declared.action.LocalAction.{LocalAction}
use Rattle.idle_branches.specs.Idle.{given_on}
use Rattle.idle_branches.specs.declared.sight.Sight.{Sight}

-- the channel at whose other side the action is, where it acts in no event
abbrev pub waits_on : ActionKind → Option ℕ
waits_on (Sends c v read) = Some c
waits_on (Releases c) = Some c
waits_on _ = None

-- the channel on which the action acts with another, at whose other side it is not
abbrev pub takes_on : ActionKind → Option ℕ
takes_on (Receives c x) = Some c
takes_on (Opens c k) = Some c
takes_on (Closes c) = Some c
takes_on _ = None

-- the action is as it was seen
abbrev pub IsSeen : Sight → ActionKind → Type 0
IsSeen Sight.Nothing action = ⊥
IsSeen (Sight.Gives c) action = waits_on action ≡ Some c
IsSeen (Sight.Takes c) action = takes_on action ≡ Some c
IsSeen Sight.Acts action = given_on action ≡ None
IsSeen (Sight.Syncs c) action = given_on action ≡ Some c
IsSeen Sight.Unknown action = Unit {0}

abbrev pub AreSeen : Sight → List LocalAction → Type 0
AreSeen sight actions = Every (λ x. IsSeen sight x.action) actions

-- what a walk through the process lists is as it was seen
abbrev pub Sees : Sight → Proc → Type 0
Sees sight p = (s : Store) (env : Received) → AreSeen sight (listed s env p).actions

-- the child of a parallel to which the place belongs
abbrev pub child_of : Place → Option ℕ
child_of [] = None
child_of (Ordered n ∷ way) = None
child_of (Branch n ∷ way) = Some n

-- the number of the branch of the body to which the place belongs
abbrev pub number_within : Option (List Command) → Place → Option ℕ
number_within None way = Some 0
number_within (Some children) way = child_of way

-- the number of the branch to which a place belongs, whether the system has so many or not
abbrev pub number_at : System → Place → Option ℕ
number_at system [] = None
number_at system (Ordered n ∷ way) = None
number_at system (Branch zero ∷ way) = number_within (parallel_of system.main) way
number_at system (Branch (suc i) ∷ way) = Some (branches_of system.main + i)

-- all that the state offers in branch k is as it was seen
abbrev pub SeenIn : System → State → ℕ → Sight → Type 0
SeenIn system S k sight = (x : LocalAction) → Offered S x → number_at system x.place ≡ Some k → IsSeen sight x.action

-- the same of what is listed of the body and the ports
abbrev pub IsBranch : System → Procs → ℕ → Sight → Type 0
IsBranch system ps k sight =
    (s : Store) (env : Received) (x : LocalAction) → In x (listed_parallel s env 0 ps).actions
    → number_at system x.place ≡ Some k → IsSeen sight x.action

-- and of what is listed of the body in its child k
abbrev pub IsChild : Proc → ℕ → Sight → Type 0
IsChild body k sight =
    (s : Store) (env : Received) (x : LocalAction) → In x (listed s env body).actions → child_of x.place ≡ Some k
    → IsSeen sight x.action

-- nothing is listed of the body in a child k, where this is false
abbrev pub NoChild : Proc → ℕ → Bool → Type 0
NoChild body k has =
    has ≡ false → (s : Store) (env : Received) (x : LocalAction) → In x (listed s env body).actions
    → child_of x.place ≡ Some k → ⊥

-- nothing that the state offers is at the other side of the channel
abbrev pub NoneGives : State → ℕ → Type 0
NoneGives S c = (x : LocalAction) → Offered S x → given_on x.action ≡ Some c → ⊥
