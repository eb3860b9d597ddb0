use Rattle.machine.proofs.public.Standing.{stands-searched}
use Rattle.machine.proofs.history.History.ready_near.Goals as goal

pub ready_under-requires : goal.ready_under-requires
ready_under-requires c = stands-searched c.args.system.now c.args.self.now c.args.uses.now c.requires.holds c.requires.uses

pub ready_under-requires-in-Body : goal.ready_under-requires-in-Body
ready_under-requires-in-Body c = stands-searched c.args.system.now c.args.self.now c.args.uses.now c.requires.holds c.requires.uses

pub ready_under-requires-in-Port : goal.ready_under-requires-in-Port
ready_under-requires-in-Port c = stands-searched c.args.system.now c.args.self.now c.args.uses.now c.requires.holds c.requires.uses

pub ready_under-requires-in-Unknown : goal.ready_under-requires-in-Unknown
ready_under-requires-in-Unknown c = stands-searched c.args.system.now c.args.self.now c.args.uses.now c.requires.holds c.requires.uses
