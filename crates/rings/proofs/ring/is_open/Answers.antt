use Rattle.std.proofs.Common.{sym, ap}
use Rattle.std.proofs.lemmas.Option.{slice_get_past}
use Rattle.rings.specs.internal.Search.{is_open}
use Rattle.rings.proofs.ring.is_open.Goals as goal

pub returns-in-None : goal.returns-in-None
returns-in-None c = sym (ap is_open (slice_get_past c.args.seen.now c.args.index c.in-None.ensures.lookup.3))
