-- `cmp` of two slices of entries is the order of addresses.
use Rattle.std.proofs.Common.{◌∙◌}
use Rattle.address.proofs.public.Entries.{entries_cmp-is}
use Rattle.address.proofs.order.compare.Goals as goal

pub returns : goal.returns
returns c =
    rw (← c.entries.ensures, ← c.entries-2.ensures)
    (c.cmp.ensures ∙ entries_cmp-is c.entries.result.now c.entries-2.result.now)
