-- With what is added for the parts that are left, all is added.
use Rattle.std.proofs.Common.{drop, map}
use Rattle.system.specs.Translation.{residual_of}
use Rattle.system.specs.internal.ArmParts.{guarded_of, labelled_of, arm_of}
use Rattle.idle_branches.specs.declared.used.Used.{Used}
use Rattle.idle_branches.specs.internal.Gathering.{Adds, FitsAll, FitsEachArm}
use Rattle.idle_branches.proofs.used.+used.Given as goal

abbrev pub invariant-add_all-loop-command : goal.invariant-add_all-loop-command
invariant-add_all-loop-command l =
    (after : Used) → Adds l.branch l.used (FitsAll (map residual_of (drop l.command-index l.commands))) after
    → Adds l.branch l.initial.used (FitsAll (map residual_of l.commands)) after

abbrev pub invariant-add_arms-loop-arm : goal.invariant-add_arms-loop-arm
invariant-add_arms-loop-arm l =
    (after : Used) → Adds l.branch l.used (FitsEachArm (map arm_of (drop l.arm-index l.arms))) after
    → Adds l.branch l.initial.used (FitsEachArm (map arm_of l.arms)) after

abbrev pub invariant-add_guarded-loop-arm : goal.invariant-add_guarded-loop-arm
invariant-add_guarded-loop-arm l =
    (after : Used) → Adds l.branch l.used (FitsAll (map (λ a. a.body) (map guarded_of (drop l.arm-index l.arms)))) after
    → Adds l.branch l.initial.used (FitsAll (map (λ a. a.body) (map guarded_of l.arms))) after

abbrev pub invariant-add_labelled-loop-arm : goal.invariant-add_labelled-loop-arm
invariant-add_labelled-loop-arm l =
    (after : Used) → Adds l.branch l.used (FitsAll (map (λ a. a.body) (map labelled_of (drop l.arm-index l.arms)))) after
    → Adds l.branch l.initial.used (FitsAll (map (λ a. a.body) (map labelled_of l.arms))) after
