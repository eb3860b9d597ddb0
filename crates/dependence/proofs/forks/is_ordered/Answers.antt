use Rattle.std.proofs.Common.{◌∙◌, Some, length, refl, sym, ap}
use Rattle.std.proofs.lemmas.Option.{slice_get_read}
use Rattle.address.specs.declared.Entry.{Entry}
use Rattle.dependence.specs.internal.Forks.{is_ordered_entry}
use Rattle.dependence.proofs.forks.is_ordered.Goals as goal

pub returns-in-Some-Ordered : goal.returns-in-Some-Ordered
returns-in-Some-Ordered c =
    let seen = c.in-Some-Ordered.ensures.lookup in
    sym (ap is_ordered_entry (slice_get_read c.args.place.now (length c.args.place.now) c.args.index c.in-Some-Ordered.field-0.now refl seen.3.0 seen.1)
    ∙ ap (λ (x : Entry). is_ordered_entry (Some x)) c.in-Some-Ordered.field-0-is)
