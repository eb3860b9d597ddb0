use Rattle.std.proofs.Common.{◌∙◌, Some, length, refl, sym, ap}
use Rattle.std.proofs.lemmas.Option.{slice_get_past, slice_get_read}
use Rattle.rings.specs.declared.ring.Seen.{Seen}
use Rattle.rings.specs.internal.Search.{is_new}
use Rattle.rings.proofs.ring.is_new.Goals as goal

pub returns-in-New : goal.returns-in-New
returns-in-New c =
    let seen = c.in-Some.ensures.lookup in
    sym (ap is_new (slice_get_read c.args.seen.now (length c.args.seen.now) c.args.index c.in-Some.state.now refl seen.3.0 seen.1) ∙ ap (λ (s : Seen). is_new (Some s)) c.in-New.is)

pub returns-in-None : goal.returns-in-None
returns-in-None c = sym (ap is_new (slice_get_past c.args.seen.now c.args.index c.in-None.ensures.lookup.3))
