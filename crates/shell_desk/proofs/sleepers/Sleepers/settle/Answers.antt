use Rattle.shell_desk.proofs.SleepLemmas.{wakes-event}
use Rattle.shell_desk.proofs.sleepers.Sleepers.settle.Goals as goal

pub returns : goal.returns
returns c =
    wakes-event c.args.ends.now c.args.machine.now c.args.event.now c.args.self.now.asleep c.settle_at.new.self.asleep
    c.settle_second.new.self.asleep c.settle_at.ensures c.settle_second.ensures
