-- The parts of a command as it is written.
use Rattle.std.specs.Prelude.{ℕ, zero, suc, Option, None, Some, slice_get}
use Rattle.std.specs.Option.{option_map}
use Rattle.types.specs.declared.tree.Action.{Action, out-Action}
use Rattle.types.specs.declared.tree.Action.TheOpen.{Action-F}
use Rattle.types.specs.declared.tree.Arm.{Arm, out-Arm}
use Rattle.types.specs.declared.tree.Command.{Command, out-Command}
use Rattle.types.specs.declared.tree.Guarded.{Guarded, out-Guarded}
use Rattle.types.specs.declared.tree.Labelled.{Labelled, out-Labelled}

-- the one part, which has the number 0
abbrev pub only : Command → ℕ → Option Command
only body zero = Some body
only body (suc n) = None

abbrev pub part_of : Action-F Action Arm Command Guarded Labelled → ℕ → Option Command
part_of (Action-F.Loop body) n = only body n
part_of (Action-F.While e body) n = only body n
part_of (Action-F.Input c body) n = only body n
part_of (Action-F.If arms last) n = option_map (λ (a : Guarded). (out-Guarded a).body) (slice_get arms n)
part_of (Action-F.Case e arms last) n = option_map (λ (a : Labelled). (out-Labelled a).body) (slice_get arms n)
part_of (Action-F.Select arms) n = option_map (λ (a : Arm). (out-Arm a).body) (slice_get arms n)
part_of (Action-F.Arbitrate arms) n = option_map (λ (a : Arm). (out-Arm a).body) (slice_get arms n)
part_of (Action-F.Sequence children) n = slice_get children n
part_of (Action-F.Parallel children) n = slice_get children n
part_of _ n = None

-- the part of number n: the body of a loop or an input, an arm's body, or a child
abbrev pub part : Command → ℕ → Option Command
part c = part_of (out-Action (out-Command c).action)

abbrev pub last_of : Action-F Action Arm Command Guarded Labelled → Option Command
last_of (Action-F.If arms last) = last
last_of (Action-F.Case e arms last) = last
last_of _ = None

-- what stands behind an `else`
abbrev pub last_part : Command → Option Command
last_part c = last_of (out-Action (out-Command c).action)
