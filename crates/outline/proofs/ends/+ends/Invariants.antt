-- With the parts that are left, the ends are those of all.
use Rattle.std.proofs.Common.{◌≡◌, drop, map}
use Rattle.outline.specs.Ends.{ends_in, in_turn, arms_in_turn}
use Rattle.outline.specs.internal.Parts.{ends_in_guarded, ends_in_labelled, ends_in_arm}
use Rattle.outline.proofs.ends.+ends.Given as goal

abbrev pub invariant-add_all-loop-command : goal.invariant-add_all-loop-command
invariant-add_all-loop-command l = in_turn (map ends_in (drop l.command-index l.commands)) l.ends ≡ in_turn (map ends_in l.commands) l.initial.ends

abbrev pub invariant-add_guarded-loop-arm : goal.invariant-add_guarded-loop-arm
invariant-add_guarded-loop-arm l = in_turn (map ends_in_guarded (drop l.arm-index l.arms)) l.ends ≡ in_turn (map ends_in_guarded l.arms) l.initial.ends

abbrev pub invariant-add_labelled-loop-arm : goal.invariant-add_labelled-loop-arm
invariant-add_labelled-loop-arm l = in_turn (map ends_in_labelled (drop l.arm-index l.arms)) l.ends ≡ in_turn (map ends_in_labelled l.arms) l.initial.ends

abbrev pub invariant-add_arms-loop-number : goal.invariant-add_arms-loop-number
invariant-add_arms-loop-number l =
    arms_in_turn l.line l.number (map ends_in_arm (drop l.number l.arms)) l.ends ≡ arms_in_turn l.line 0 (map ends_in_arm l.arms) l.initial.ends
