use Rattle.std.proofs.Common.{◌≡◌, ℕ, take}
use Rattle.std.specs.Prelude.{slice_get}
use Rattle.std.specs.List.{flat_map}
use Rattle.std.specs.Option.{option_to_list}
use Rattle.picture_data.proofs.end.ring_of.Given as goal

abbrev pub invariant-loop-action : goal.invariant-loop-action
invariant-loop-action l = l.ring.items ≡ flat_map (λ (i : ℕ). option_to_list (slice_get l.place_of_action i)) (take l.action-index l.actions)
