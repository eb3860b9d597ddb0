-- With the parts that are left, the calls are those of all.
use Rattle.std.proofs.Common.{◌≡◌, drop, map}
use Rattle.source_calls.specs.Counts.{calls_in, with_all}
use Rattle.source_calls.specs.internal.Parts.{calls_in_guarded, calls_in_labelled, calls_in_arm}
use Rattle.source_calls.proofs.parts.+calls.Given as goal

abbrev pub invariant-calls_in_all-loop-command : goal.invariant-calls_in_all-loop-command
invariant-calls_in_all-loop-command l = with_all l.count (map calls_in (drop l.command-index l.commands)) ≡ with_all 0 (map calls_in l.commands)

abbrev pub invariant-calls_in_guarded-loop-arm : goal.invariant-calls_in_guarded-loop-arm
invariant-calls_in_guarded-loop-arm l = with_all l.count (map calls_in_guarded (drop l.arm-index l.arms)) ≡ with_all 0 (map calls_in_guarded l.arms)

abbrev pub invariant-calls_in_labelled-loop-arm : goal.invariant-calls_in_labelled-loop-arm
invariant-calls_in_labelled-loop-arm l = with_all l.count (map calls_in_labelled (drop l.arm-index l.arms)) ≡ with_all 0 (map calls_in_labelled l.arms)

abbrev pub invariant-calls_in_arms-loop-arm : goal.invariant-calls_in_arms-loop-arm
invariant-calls_in_arms-loop-arm l = with_all l.count (map calls_in_arm (drop l.arm-index l.arms)) ≡ with_all 0 (map calls_in_arm l.arms)
