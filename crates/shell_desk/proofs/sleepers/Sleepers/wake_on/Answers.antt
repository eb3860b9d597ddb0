use Rattle.std.proofs.Common.{List, ℕ, subst}
use Rattle.shell_desk.specs.internal.Sleeping.{SleepButThese}
use Rattle.shell_desk.proofs.sleepers.Sleepers.wake_on.Goals as goal

pub returns : goal.returns
returns c =
    subst (λ (woken : List ℕ). SleepButThese woken c.args.self.now.asleep c.wake_each.new.self.asleep) c.acting_on.ensures
    c.wake_each.ensures
