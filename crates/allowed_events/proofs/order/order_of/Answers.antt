use Rattle.std.proofs.Common.{◌∙◌}
use Rattle.address.proofs.public.Entries.{entries_cmp-is}
use Rattle.allowed_events.proofs.order.order_of.Goals as goal

pub returns : goal.returns
returns c = c.cmp.ensures ∙ entries_cmp-is c.args.one.now c.args.two.now
