-- What the actions that wait in a state wait for, which of them are deadlocked, and rings of them.
use Rattle.std.specs.Prelude.{◌≡◌, ◌↔◌, ℕ, List, [], ◌∷◌, length, Bool, true, Some, map, slice_get}
use Rattle.runs.specs.Moves.{Place}
use Rattle.runs.specs.Steps.{State}
use Rattle.machine.specs.AtMachine.{AtMachine}
use Rattle.local_actions.specs.declared.action.LocalAction.{LocalAction}
use Rattle.rings.specs.Partners.{partner_in}
use Rattle.rings.specs.Rings.{EachOnce, InTurn, IsDeadlocked, IsRing, places_at}
use Rattle.rings.specs.declared.partner.Partner.{Partner}
use Rattle.waiting.specs.Input.{helped_in}
use Rattle.waiting.specs.Waits.{Waits}

-- for each of the actions its partner
abbrev pub TellsPartners : State → List LocalAction → List Partner → Type 0
TellsPartners S actions partners = partners ≡ map (partner_in S.residual) actions

-- the place is one of some that wait in S, of which none goes on before another one does, whatever the environment
-- gives
abbrev pub IsDeadlockedIn : AtMachine → State → Place → Type 0
IsDeadlockedIn m S a = IsDeadlocked (Waits S) (helped_in m S) S.residual a

-- for each of the actions whether its place is deadlocked
abbrev pub NamesDeadlocked : AtMachine → State → List LocalAction → List Bool → Type 0
NamesDeadlocked m S actions marks =
    (length marks ≡ length actions)
    × ((i : ℕ) (x : LocalAction) → slice_get actions i ≡ Some x
    → (slice_get marks i ≡ Some true) ↔ IsDeadlockedIn m S x.place)

-- these places are a ring of those that wait in S
abbrev pub IsRingIn : AtMachine → State → List Place → Type 0
IsRingIn m S ring = IsRing (Waits S) (helped_in m S) S.residual ring

-- the indexes are those of actions whose places are a ring, each once, and of which each itself waits for the next, of
-- a choice the arm that is told; or there is no ring, and none is told
abbrev pub NamesRing : AtMachine → State → List LocalAction → List ℕ → Type 0
NamesRing m S actions [] = (ring : List Place) → IsRingIn m S ring → ⊥
NamesRing m S actions (i ∷ rest) =
    (ring : List Place) × (places_at actions (i ∷ rest) ≡ map (λ (a : Place). Some a) ring)
    × IsRingIn m S ring × EachOnce ring × InTurn S.residual actions i i rest
