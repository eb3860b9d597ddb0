use Rattle.std.proofs.Common.{◌≡◌, ◌++◌, drop}
use Rattle.waiting.specs.WaitingText.{action_lines}
use Rattle.waiting.proofs.text.write_actions.Given as goal

-- with the actions that are left, the lines are those of all
abbrev pub invariant-loop-index : goal.invariant-loop-index
invariant-loop-index l =
    l.out.items ++ action_lines l.machine l.partners l.index (drop l.index l.actions)
    ≡ l.initial.out.items ++ action_lines l.machine l.partners 0 l.actions
