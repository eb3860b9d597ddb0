use Rattle.std.proofs.Common.{sym, subst}
use Rattle.locked_execution.specs.declared.command.Reply.{Reply}
use Rattle.shell_desk.specs.internal.Sleeping.{SleepsBehind}
use Rattle.shell_desk.proofs.SleepLemmas.{kept-behind}
use Rattle.shell_desk.proofs.sleepers.Sleepers.note.Goals as goal

pub returns-in-Stepped : goal.returns-in-Stepped
returns-in-Stepped c =
    subst (λ (r : Reply). SleepsBehind c.args.ends.now c.args.machine.now c.args.branch r c.args.self.now.asleep
    c.settle.new.self.asleep) (sym c.in-Stepped.is) c.settle.ensures

pub returns-in_default : goal.returns-in_default
returns-in_default c =
    kept-behind c.args.ends.now c.args.machine.now c.args.branch c.args.reply.now c.args.self.now.asleep
    c.in_default.not-Stepped
