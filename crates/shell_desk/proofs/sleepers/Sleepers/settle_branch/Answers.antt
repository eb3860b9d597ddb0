use Rattle.std.proofs.Common.{subst}
use Rattle.idle_branches.specs.declared.glance.Glance.{Glance}
use Rattle.shell_desk.specs.internal.Sleeping.{FacesNow, TellsNow}
use Rattle.shell_desk.proofs.SleepLemmas.{acts-at, rests-at, there-woken, wakes-at}
use Rattle.shell_desk.proofs.sleepers.Sleepers.settle_branch.Goals as goal

pub returns-in-Rests : goal.returns-in-Rests
returns-in-Rests c =
    rests-at c.args.ends.now c.args.machine.now c.args.place.now c.args.branch c.in-Rests.faced c.args.self.now.asleep
    c.wake_faced_on.new.self.asleep c.lull.new.self c.requires
    (subst (λ (told : Glance). TellsNow told c.args.ends.now c.args.machine.now c.args.branch) c.in-Rests.is c.glance_at.ensures.rests)
    (subst (λ (told : Glance). FacesNow told c.args.machine.now c.args.place.now) c.in-Rests.is
    (c.glance_at.ensures.faced c.args.place.now c.requires))
    c.wake_faced_on.ensures c.lull.ensures

pub returns-in-Acts : goal.returns-in-Acts
returns-in-Acts c =
    acts-at c.args.ends.now c.args.machine.now c.args.place.now c.args.branch c.in-Acts.faced c.args.self.now.asleep
    c.wake_faced_on-in-Acts.new.self.asleep c.wake.new.self c.requires
    (subst (λ (told : Glance). FacesNow told c.args.machine.now c.args.place.now) c.in-Acts.is
    (c.glance_at.ensures.faced c.args.place.now c.requires))
    c.wake_faced_on-in-Acts.ensures c.wake.ensures

pub returns-in-Unknown : goal.returns-in-Unknown
returns-in-Unknown c =
    wakes-at c.args.ends.now c.args.machine.now c.args.place.now c.args.self.now.asleep c.wake-in-Unknown.new.self
    c.wake_faced_at.new.self.asleep
    (there-woken c.args.machine.now.checked c.args.place.now c.args.branch c.args.self.now.asleep c.wake-in-Unknown.new.self
    c.requires c.wake-in-Unknown.ensures)
    c.wake_faced_at.ensures
