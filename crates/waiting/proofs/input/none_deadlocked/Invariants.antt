use Rattle.std.proofs.Common.{◌≡◌, drop}
use Rattle.waiting.specs.internal.LackTests.{none_deadlocked}
use Rattle.waiting.proofs.input.none_deadlocked.Given as goal

-- of those that are left the same holds
abbrev pub invariant-loop-index : goal.invariant-loop-index
invariant-loop-index l =
    none_deadlocked l.marks l.index (drop l.index l.actions) ≡ none_deadlocked l.marks 0 l.actions
