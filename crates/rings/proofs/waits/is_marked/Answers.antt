use Rattle.std.proofs.Common.{length, refl, sym, ap}
use Rattle.std.proofs.lemmas.Option.{slice_get_past, slice_get_read}
use Rattle.rings.specs.internal.Loosened.{is_marked}
use Rattle.rings.proofs.waits.is_marked.Goals as goal

pub returns-in-Some : goal.returns-in-Some
returns-in-Some c =
    let seen = c.in-Some.ensures.lookup in
    sym (ap is_marked (slice_get_read c.args.marks.now (length c.args.marks.now) c.args.index c.in-Some.mark.now refl seen.3.0 seen.1))

pub returns-in-None : goal.returns-in-None
returns-in-None c = sym (ap is_marked (slice_get_past c.args.marks.now c.args.index c.in-None.ensures.lookup.3))
