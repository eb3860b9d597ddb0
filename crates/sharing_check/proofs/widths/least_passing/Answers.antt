use Rattle.std.proofs.Common.{sym, subst}
use Rattle.sharing_check.specs.Refusal.{PassesAt}
use Rattle.sharing_check.proofs.CountLeast.{IsLeast, least_is}
use Rattle.sharing_check.proofs.widths.least_passing.Goals as goal

pub returns : goal.returns
returns c =
    let system = c.args.system.now in
    subst (IsLeast (PassesAt system)) (sym c.least_of.ensures.found)
    (least_is system c.in_ok-widths.widths.by_channel.entries c.least_of.ensures.unique c.in_ok-widths.ensures)
