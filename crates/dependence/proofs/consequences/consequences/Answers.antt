use Rattle.std.proofs.Common.{List, sym, subst, ◌≡◌, ◌∙◌, ◌-◌, Bool, length, ap, arith}
use Rattle.std.specs.Prelude.{IfOk}
use Rattle.std.proofs.lemmas.Option.{slice_get_within}
use Rattle.slots.specs.Places.{filled}
use Rattle.runs.specs.Live.{Live, IsLive, ConsequencesList}
use Rattle.dependence.specs.declared.links.Links.{Links}
use Rattle.dependence.specs.internal.Tables.{Linked}
use Rattle.dependence.specs.internal.Listed.{links_kept}
use Rattle.dependence.proofs.consequences.consequences.Goals as goal

pub place_of-base-requires-clause-live : goal.place_of-base-requires-clause-live
place_of-base-requires-clause-live c = subst (λ (k : Live). IsLive k c.args.ticket) (sym c.places-slots.ensures.live) c.requires.live

pub tickets_from-requires-clause-linked : goal.tickets_from-requires-clause-linked
tickets_from-requires-clause-linked c =
    subst (λ (k : Live). Linked k (links_kept (filled c.places-slots.result.now.entries))) (sym c.places-slots.ensures.live)
    (subst (λ (ms : List Links). Linked c.args.list.now.live ms) (sym c.places-slots.ensures.links) c.requires.linked)

pub tickets_from-requires-clause-within : goal.tickets_from-requires-clause-within
tickets_from-requires-clause-within c = slice_get_within c.places-slots.result.now.entries c.place_of-base.result _ c.place_of-base.ensures.1

pub returns : goal.returns
returns c =
    subst (λ (k : Live). IfOk c.tickets_from.result (λ tickets. ConsequencesList k c.args.ticket tickets.items)) c.places-slots.ensures.live c.tickets_from.ensures

pub tickets_from-requires-clause-size : goal.tickets_from-requires-clause-size
tickets_from-requires-clause-size c =
    let within = slice_get_within c.places-slots.result.now.entries c.place_of-base.result _ c.place_of-base.ensures.1 in
    let size : length c.as_mut_slice.result.now ≡ c.len.result - c.place_of-base.result = ap (λ (ms : List Bool). length ms) c.as_mut_slice.ensures.value ∙ c.in_ok-marks.ensures.size in
    let len = c.len.ensures.len in
    omega (arith, within, size, len)
