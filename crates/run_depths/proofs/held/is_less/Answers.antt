use Rattle.std.proofs.Common.{ap, ◌∙◌}
use Rattle.std.specs.Ordering.{is_lt}
use Rattle.address.proofs.public.Entries.{entries_cmp-is}
use Rattle.run_depths.proofs.held.is_less.Goals as goal

pub returns : goal.returns
returns c = c.is_lt.ensures ∙ ap is_lt (c.cmp.ensures ∙ entries_cmp-is c.args.one.now c.args.other.now)
