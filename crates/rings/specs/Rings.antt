-- Deadlocks: places of which none goes on before another of them does. In a ring of them each waits for the next one,
-- and the last for the first. (Own. A choice waits for whichever of its arms comes first, so it is deadlocked only
-- where each of its arms is, and it is in a ring by any one of them.)
use Rattle.std.specs.Prelude.{◌≡◌, ◌↔◌, ℕ, List, [], ◌∷◌, length, Bool, true, false, Option, Some, option_map, slice_get, map}
use Rattle.syntax.specs.Lists.{In}
use Rattle.system.specs.Residual.{Residual}
use Rattle.runs.specs.Moves.{Place}
use Rattle.local_actions.specs.Actions.{Under}
use Rattle.local_actions.specs.declared.action.LocalAction.{LocalAction}
use Rattle.rings.specs.Partners.{partner_in}
use Rattle.rings.specs.declared.partner.Partner.{Partner}
use Rattle.rings.specs.declared.partner.Partner.TheVariants as partner

-- which actions wait
abbrev pub Waiters : Type 1
Waiters = LocalAction → Type 0

-- for which of them none of the others has to go on, since another hand helps
abbrev pub Helped : Type 0
Helped = LocalAction → Bool

-- an action waits at the place
abbrev pub WaitsAt : Waiters → Place → Type 0
WaitsAt W a = (x : LocalAction) × W x × (x.place ≡ a)

-- ---- deadlock

-- the partner cannot come, or comes only once what stands at one of these places has gone on
abbrev pub HeldBack : List Place → Partner → Type 0
HeldBack places (partner.Behind p) = (a : Place) × In a places × Under p a
HeldBack places partner.Gone = Unit {0}
HeldBack places partner.Open = ⊥

-- None of these places goes on before another of them does: something waits at each, and whatever waits there, each arm
-- of a choice, is not helped, and they hold its partner back.
abbrev pub HoldEachOther : Waiters → Helped → Residual → List Place → Type 0
HoldEachOther W helped r places =
    (a : Place) → In a places
    → WaitsAt W a × ((x : LocalAction) → W x → x.place ≡ a → (helped x ≡ false) × HeldBack places (partner_in r x))

-- the place is one of such places
abbrev pub IsDeadlocked : Waiters → Helped → Residual → Place → Type 0
IsDeadlocked W helped r a = (places : List Place) × In a places × HoldEachOther W helped r places

-- where exactly these actions wait: for each of them whether its place is deadlocked
abbrev pub TellsDeadlocked : Helped → Residual → List LocalAction → List Bool → Type 0
TellsDeadlocked helped r actions marks =
    (length marks ≡ length actions)
    × ((i : ℕ) (x : LocalAction) → slice_get actions i ≡ Some x
    → (slice_get marks i ≡ Some true) ↔ IsDeadlocked (λ y. In y actions) helped r x.place)

-- ---- rings

-- the partner comes once what stands at place a has gone on
abbrev pub IsBehind : Partner → Place → Type 0
IsBehind (partner.Behind p) a = Under p a
IsBehind partner.Gone a = ⊥
IsBehind partner.Open a = ⊥

-- where r is still to do, place a waits for place b: something waits at a whose only other end stands behind b
abbrev pub WaitsFor : Waiters → Residual → Place → Place → Type 0
WaitsFor W r a b = (x : LocalAction) × W x × (x.place ≡ a) × IsBehind (partner_in r x) b

-- a and each of the others are deadlocked; from a on each waits for the next one, and the last for the first
abbrev pub Linked : Waiters → Helped → Residual → Place → Place → List Place → Type 0
Linked W helped r first a [] = IsDeadlocked W helped r a × WaitsFor W r a first
Linked W helped r first a (b ∷ rest) = IsDeadlocked W helped r a × WaitsFor W r a b × Linked W helped r first b rest

-- these places are a ring
abbrev pub IsRing : Waiters → Helped → Residual → List Place → Type 0
IsRing W helped r [] = ⊥
IsRing W helped r (a ∷ rest) = Linked W helped r a a rest

-- each stands there once
abbrev pub EachOnce : List Place → Type 0
EachOnce [] = Unit {0}
EachOnce (a ∷ rest) = (In a rest → ⊥) × EachOnce rest

-- the place of the action at each of these indexes
abbrev pub places_at : List LocalAction → List ℕ → List (Option Place)
places_at actions indexes = map (λ (i : ℕ). option_map (λ (x : LocalAction). x.place) (slice_get actions i)) indexes

-- the action of index i itself waits for that of index j: the only other end of its channel stands behind that one
abbrev pub IsNext : Residual → List LocalAction → ℕ → ℕ → Type 0
IsNext r actions i j =
    (x y : LocalAction) × (slice_get actions i ≡ Some x) × (slice_get actions j ≡ Some y)
    × IsBehind (partner_in r x) y.place

-- from index i on each waits for the next one, and the last for the first
abbrev pub InTurn : Residual → List LocalAction → ℕ → ℕ → List ℕ → Type 0
InTurn r actions first i [] = IsNext r actions i first
InTurn r actions first i (j ∷ rest) = IsNext r actions i j × InTurn r actions first j rest

-- where exactly these actions wait: the indexes are those of actions whose places are a ring, each once, and of which
-- each itself waits for the next, of a choice the arm that is told; or there is no ring, and none is told
abbrev pub TellsRing : Helped → Residual → List LocalAction → List ℕ → Type 0
TellsRing helped r actions [] = (ring : List Place) → IsRing (λ x. In x actions) helped r ring → ⊥
TellsRing helped r actions (i ∷ rest) =
    (ring : List Place) × (places_at actions (i ∷ rest) ≡ map (λ (a : Place). Some a) ring)
    × IsRing (λ x. In x actions) helped r ring × EachOnce ring × InTurn r actions i i rest
