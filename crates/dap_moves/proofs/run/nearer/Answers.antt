use Rattle.std.proofs.Common.{sym}
use Rattle.dap_moves.proofs.Nearest.{nearer_absent}
use Rattle.dap_moves.proofs.run.nearer.Goals as goal

pub returns-in-None : goal.returns-in-None
returns-in-None c =
    nearer_absent c.args.system.now c.args.only c.args.turn c.args.count c.args.event.now c.args.found.1.now c.args.found.0 (sym c.in-None.ensures)
