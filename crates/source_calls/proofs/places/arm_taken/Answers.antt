use Rattle.std.proofs.Common.{sym}
use Rattle.dependence.proofs.public.Taken.{arm-of-the-live, no-live-arm}
use Rattle.source_calls.proofs.places.arm_taken.Goals as goal

pub returns-in-Some : goal.returns-in-Some
returns-in-Some c = sym (arm-of-the-live c.args.live.now.live c.args.choice.now c.in-Some.event.now c.in-Some.ensures)

pub returns-in-None : goal.returns-in-None
returns-in-None c = sym (no-live-arm c.args.live.now.live c.args.choice.now c.in-None.ensures)
