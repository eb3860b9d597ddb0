use Rattle.std.proofs.Common.{◌≡◌, drop, map, Ok}
use Rattle.types.specs.Commands.{judged_command, each}
use Rattle.types.specs.Findings.{with_all, all, and_all, demands}
use Rattle.types.specs.internal.CommandParts.{judged_arm}
use Rattle.types.specs.internal.Least.{least}
use Rattle.types.specs.internal.Owed.{guarded_arm, guard_owed, labelled_arm, labels_of, labels_owed}
use Rattle.types.specs.internal.Scopes.{scope_of}
use Rattle.types.proofs.command.+settled_command.Given as goal

-- with the commands that are left, those so far are all
abbrev pub invariant-settled_commands-loop-command : goal.invariant-settled_commands-loop-command
invariant-settled_commands-loop-command l =
    with_all least l.settled (map (λ c. c (scope_of l.scope) l.opened) (map (judged_command least) (drop l.command-index l.commands)))
    ≡ each least (map (judged_command least) l.commands) (scope_of l.scope) l.opened

-- with the arms that are left, those so far are all, and so is what they owe
abbrev pub invariant-settled_guarded-loop-arm : goal.invariant-settled_guarded-loop-arm
invariant-settled_guarded-loop-arm l = record {
  arms : with_all least l.settled (map (guarded_arm (scope_of l.scope) l.opened) (drop l.arm-index l.arms))
      ≡ all least (map (guarded_arm (scope_of l.scope) l.opened) l.arms);
  own : and_all least l.own (map (guard_owed (scope_of l.scope) l.opened) (drop l.arm-index l.arms))
      ≡ demands least (map (guard_owed (scope_of l.scope) l.opened) l.arms);
}

-- with the arms that are left, those so far are all, and so is what their labels owe
abbrev pub invariant-labelled_behind-loop-arm : goal.invariant-labelled_behind-loop-arm
invariant-labelled_behind-loop-arm l = record {
  arms : with_all least l.settled (map (labelled_arm (scope_of l.scope) l.opened) (drop l.arm-index l.arms))
      ≡ all least (map (labelled_arm (scope_of l.scope) l.opened) l.arms);
  own : labels_owed l.width l.seen.keys l.own (map (labels_of (scope_of l.scope) l.opened) (drop l.arm-index l.arms))
      ≡ labels_owed l.width l.fn.seen.keys (Ok tt) (map (labels_of (scope_of l.scope) l.opened) l.arms);
}

-- with the arms that are left, those so far are all
abbrev pub invariant-settled_arms-loop-arm : goal.invariant-settled_arms-loop-arm
invariant-settled_arms-loop-arm l =
    with_all least l.settled (map (λ a. a (scope_of l.scope) l.opened) (map (judged_arm least) (drop l.arm-index l.arms)))
    ≡ each least (map (judged_arm least) l.arms) (scope_of l.scope) l.opened
