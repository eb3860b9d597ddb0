use Rattle.std.proofs.Common.{◌≡◌, drop}
use Rattle.waiting.specs.Input.{is_fed}
use Rattle.waiting.proofs.input.is_fed.Given as goal

abbrev pub invariant-loop-branch : goal.invariant-loop-branch
invariant-loop-branch l = is_fed l.channel (drop l.branch-index l.branches) ≡ is_fed l.channel l.branches
