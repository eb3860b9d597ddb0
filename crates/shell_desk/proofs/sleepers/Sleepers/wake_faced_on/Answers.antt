use Rattle.std.proofs.Common.{ℕ, Option, sym, subst}
use Rattle.shell_desk.specs.internal.Sleeping.{SleepButThese, acting_on}
use Rattle.shell_desk.proofs.SleepLemmas.{nobody-faced}
use Rattle.shell_desk.proofs.sleepers.Sleepers.wake_faced_on.Goals as goal

pub returns-in-Some : goal.returns-in-Some
returns-in-Some c =
    subst (λ (o : Option ℕ). SleepButThese (acting_on c.args.ends.now o) c.args.self.now.asleep c.wake_on.new.self.asleep)
    (sym c.in-Some.is) c.wake_on.ensures

pub returns-in-None : goal.returns-in-None
returns-in-None c =
    subst (λ (o : Option ℕ). SleepButThese (acting_on c.args.ends.now o) c.args.self.now.asleep c.args.self.now.asleep)
    (sym c.in-None.is) (nobody-faced c.args.ends.now c.args.self.now.asleep)
