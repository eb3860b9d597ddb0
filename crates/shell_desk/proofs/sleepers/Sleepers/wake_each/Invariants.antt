use Rattle.std.proofs.Common.{ℕ, drop}
use Rattle.syntax.specs.Lists.{In}
use Rattle.shell_desk.specs.internal.Sleeping.{IsAsleep}
use Rattle.shell_desk.proofs.sleepers.Sleepers.wake_each.Given as goal

-- who sleeps slept before, and is not among those that were woken
abbrev pub invariant-loop-branch : goal.invariant-loop-branch
invariant-loop-branch l =
    (i : ℕ) → IsAsleep l.self.asleep i
    → IsAsleep l.initial.self.asleep i × (In i l.branches → In i (drop l.branch-index l.branches))
