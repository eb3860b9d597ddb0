use Rattle.std.proofs.Common.{◌+◌, arith}
use Rattle.shell_desk.proofs.SleepLemmas.{fewer-sleep}
use Rattle.shell_desk.proofs.sleepers.Sleepers.first_awake.Goals as goal

pub returns-then-next-to-clause-next : goal.returns-then-next-to-clause-next
returns-then-next-to-clause-next c = (
  omega arith,
  omega arith,
  fewer-sleep c.asleep_from.new.self c.args.from _ (c.args.from + c.asleep_from.result) c.asleep_from.ensures.asleep (omega arith),
)

pub returns-else-next-to-clause-next : goal.returns-else-next-to-clause-next
returns-else-next-to-clause-next c =
    fewer-sleep c.asleep_from.new.self c.args.from c.args.to (c.args.from + c.asleep_from.result) c.asleep_from.ensures.asleep
    (omega arith)
