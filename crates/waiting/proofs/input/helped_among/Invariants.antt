use Rattle.std.proofs.Common.{◌≡◌, ◌++◌, drop}
use Rattle.waiting.specs.internal.Helps.{helps}
use Rattle.waiting.proofs.input.helped_among.Given as goal

-- of those that are left the same holds
abbrev pub invariant-loop-index : goal.invariant-loop-index
invariant-loop-index l = l.helped.items ++ helps l.machine l.partners l.index (drop l.index l.actions) ≡ helps l.machine l.partners 0 l.actions
