use Rattle.std.proofs.Common.{◌≡◌, drop}
use Rattle.waiting.specs.internal.LackTests.{all_settled}
use Rattle.waiting.proofs.input.all_settled.Given as goal

-- of those that are left the same holds
abbrev pub invariant-loop-index : goal.invariant-loop-index
invariant-loop-index l = all_settled l.partners l.index (drop l.index l.actions) ≡ all_settled l.partners 0 l.actions
