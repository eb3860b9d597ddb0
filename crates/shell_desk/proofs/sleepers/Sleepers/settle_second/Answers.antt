use Rattle.std.proofs.Common.{Option, sym, subst}
use Rattle.runs.specs.Events.{places_of}
use Rattle.runs.specs.Moves.{Place}
use Rattle.shell_desk.specs.internal.Sleeping.{SleepBehindPlaces}
use Rattle.shell_desk.proofs.SleepLemmas.{no-place}
use Rattle.shell_desk.proofs.sleepers.Sleepers.settle_second.Goals as goal

pub returns-in-Some : goal.returns-in-Some
returns-in-Some c =
    subst (λ (o : Option Place). SleepBehindPlaces c.args.ends.now c.args.machine.now (places_of o) c.args.self.now.asleep
    c.settle_at.new.self.asleep) (sym c.in-Some.is) c.settle_at.ensures

pub returns-in-None : goal.returns-in-None
returns-in-None c =
    subst (λ (o : Option Place). SleepBehindPlaces c.args.ends.now c.args.machine.now (places_of o) c.args.self.now.asleep
    c.args.self.now.asleep) (sym c.in-None.is)
    (no-place c.args.ends.now c.args.machine.now c.args.self.now.asleep)
