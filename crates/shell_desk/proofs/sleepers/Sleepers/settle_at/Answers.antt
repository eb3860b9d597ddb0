use Rattle.shell_desk.proofs.SleepLemmas.{place-all-woken}
use Rattle.shell_desk.proofs.sleepers.Sleepers.settle_at.Goals as goal

pub returns-in-None : goal.returns-in-None
returns-in-None c =
    place-all-woken c.args.ends.now c.args.machine.now c.args.place.now c.args.self.now.asleep c.wake_all.new.self
    c.wake_all.ensures
