use Rattle.std.proofs.Common.{length, arith}
use Rattle.shell_desk.proofs.SleepLemmas.{asleep-up-to, none-between}
use Rattle.shell_desk.proofs.marks.asleep_at.Goals as goal

pub returns-then-marks-from : goal.returns-then-marks-from
returns-then-marks-from c = none-between c.args.marks.now c.args.from _ (omega arith)

pub returns-in-Some : goal.returns-in-Some
returns-in-Some c =
    asleep-up-to c.args.marks.now c.split_at.result.1.now c.args.from c.in-Some.count c.in-Some.count c.split_at.ensures.back
    (omega (arith, c.in-Some.ensures.0.high)) (omega arith) c.in-Some.ensures.0.before

pub returns-in-None : goal.returns-in-None
returns-in-None c =
    asleep-up-to c.args.marks.now c.split_at.result.1.now c.args.from _ (length c.split_at.result.1.now) c.split_at.ensures.back
    (omega arith) (omega arith) c.in-None.ensures
