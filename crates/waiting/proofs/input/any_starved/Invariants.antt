use Rattle.std.proofs.Common.{◌≡◌, drop}
use Rattle.waiting.specs.internal.LackTests.{any_starved}
use Rattle.waiting.proofs.input.any_starved.Given as goal

-- of the actions that are left the same holds
abbrev pub invariant-loop-index : goal.invariant-loop-index
invariant-loop-index l = any_starved l.machine l.partners l.index (drop l.index l.actions) ≡ any_starved l.machine l.partners 0 l.actions
