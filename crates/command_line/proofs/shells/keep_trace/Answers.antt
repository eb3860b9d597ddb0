use Rattle.std.proofs.Common.{refl}
use Rattle.command_line.proofs.shells.keep_trace.Goals as goal

pub returns-in-Some : goal.returns-in-Some
returns-in-Some g c = rw c.in-Some.is c.read_trace.ensures

pub returns-in-None : goal.returns-in-None
returns-in-None g c = rw c.in-None.is (tt, refl, refl)
