-- The lanes of a picture, by the numbers that its data have.
use Rattle.std.specs.Prelude.{◌≡◌, ◌⊎◌, ℕ, ◌<◌, List, Some, slice_get}
use Rattle.runs.specs.Live.{Rising}
use Rattle.runs.specs.declared.event.Event.{Event}
use Rattle.dependence.specs.Followers.{DirectDependent}
use Rattle.types.specs.declared.tree.Procedure.{Procedure}
use Rattle.machine.specs.AtMachine.{AtMachine}
use Rattle.picture_data.specs.Shown.{Shows}
use Rattle.picture_data.specs.declared.actions.Actions.{Actions}
use Rattle.picture_data.specs.declared.picture.Picture.{Picture}

-- one of the two places is told in the lane of number k
abbrev pub IsInLane : ℕ → Actions → Type 0
IsInLane k s = (s.first_lane ≡ Some k) ⊎ (s.second_lane ≡ Some k)

-- of two live events that a picture tells in one lane, the later depends directly on the earlier: each lane is a chain
abbrev pub ShownLanesAreChains : Type 0
ShownLanesAreChains =
    (m : AtMachine) (procedures : List Procedure) (p : Picture) (low next i j k t u : ℕ) (e f : Event) (s r : Actions) →
    Rising low m.live next → Shows m procedures p → slice_get m.live i ≡ Some (t, e) →
    slice_get m.live j ≡ Some (u, f) →
    i < j → slice_get p.steps.actions.items i ≡ Some s → slice_get p.steps.actions.items j ≡ Some r →
    IsInLane k s → IsInLane k r → DirectDependent m.live t u
