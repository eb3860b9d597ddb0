use Rattle.std.proofs.Common.{◌≡◌, ◌++◌, drop, map}
use Rattle.process_tree.specs.Translation.{code_of}
use Rattle.process_tree.specs.internal.Arms.{guarded_of, labelled_of, arm_of}
use Rattle.process_tree.specs.View.{code_view}
use Rattle.process_tree.proofs.translate.+code_of.Given as goal

abbrev pub invariant-codes_of-loop-command : goal.invariant-codes_of-loop-command
invariant-codes_of-loop-command l = map code_view l.codes ++ map code_of (drop l.command-index l.commands) ≡ map code_of l.commands

abbrev pub invariant-bodies_of_if-loop-arm : goal.invariant-bodies_of_if-loop-arm
invariant-bodies_of_if-loop-arm l =
    map code_view l.codes ++ map (λ a. a.1) (map guarded_of (drop l.arm-index l.arms)) ≡ map (λ a. a.1) (map guarded_of l.arms)

abbrev pub invariant-bodies_of_case-loop-arm : goal.invariant-bodies_of_case-loop-arm
invariant-bodies_of_case-loop-arm l =
    map code_view l.codes ++ map (λ a. a.1) (map labelled_of (drop l.arm-index l.arms)) ≡ map (λ a. a.1) (map labelled_of l.arms)

abbrev pub invariant-bodies_of_arms-loop-arm : goal.invariant-bodies_of_arms-loop-arm
invariant-bodies_of_arms-loop-arm l =
    map code_view l.codes ++ map (λ a. a.1) (map arm_of (drop l.arm-index l.arms)) ≡ map (λ a. a.1) (map arm_of l.arms)
