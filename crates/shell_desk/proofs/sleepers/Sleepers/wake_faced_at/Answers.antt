use Rattle.std.proofs.Common.{◌∙◌, subst}
use Rattle.system.specs.declared.system.System.{System}
use Rattle.shell_desk.specs.internal.Sleeping.{AreGiven}
use Rattle.shell_desk.proofs.SleepLemmas.{acting-woken}
use Rattle.shell_desk.proofs.sleepers.Sleepers.wake_faced_at.Goals as goal

pub returns-in-Some : goal.returns-in-Some
returns-in-Some c =
    acting-woken c.gives_what_is_known.ensures c.args.ends.now c.args.machine.now c.args.place.now c.in-Some.channels.now
    c.args.self.now.asleep c.wake_acting.new.self.asleep
    (subst (λ (s : System). AreGiven s c.args.ends.now c.args.place.now c.in-Some.channels.now)
    (c.system.ensures ∙ c.checked.ensures) c.in-Some.ensures)
    c.wake_acting.ensures
