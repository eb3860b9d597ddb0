use Rattle.std.proofs.Common.{◌≡◌, drop, map}
use Rattle.elaborate.specs.Size.{nothing}
use Rattle.elaborate.specs.SourceSize.{all_beside, size_of}
use Rattle.elaborate.specs.internal.Limited.{limited}
use Rattle.elaborate.specs.internal.SizeParts.{size_of_guarded, size_of_labelled, size_of_arm}
use Rattle.elaborate.proofs.count.+size.Given as goal

abbrev pub invariant-size_of_all-loop-command : goal.invariant-size_of_all-loop-command
invariant-size_of_all-loop-command l =
    all_beside limited l.size (map (size_of limited l.sizes) (drop l.command-index l.commands))
    ≡ all_beside limited nothing (map (size_of limited l.sizes) l.commands)

abbrev pub invariant-size_of_guarded-loop-arm : goal.invariant-size_of_guarded-loop-arm
invariant-size_of_guarded-loop-arm l =
    all_beside limited l.size (map (size_of_guarded limited l.sizes) (drop l.arm-index l.arms))
    ≡ all_beside limited nothing (map (size_of_guarded limited l.sizes) l.arms)

abbrev pub invariant-size_of_labelled-loop-arm : goal.invariant-size_of_labelled-loop-arm
invariant-size_of_labelled-loop-arm l =
    all_beside limited l.size (map (size_of_labelled limited l.sizes) (drop l.arm-index l.arms))
    ≡ all_beside limited nothing (map (size_of_labelled limited l.sizes) l.arms)

abbrev pub invariant-size_of_arms-loop-arm : goal.invariant-size_of_arms-loop-arm
invariant-size_of_arms-loop-arm l =
    all_beside limited l.size (map (size_of_arm limited l.sizes) (drop l.arm-index l.arms))
    ≡ all_beside limited nothing (map (size_of_arm limited l.sizes) l.arms)
