use Rattle.std.proofs.Common.{◌∙◌, ◌≡◌, ℕ, Option, Some, sym, ap, subst}
use Rattle.std.specs.Prelude.{MatchOption, slice_get}
use Rattle.std.proofs.lemmas.Option.{slice_get_within}
use Rattle.slots.specs.Places.{filled}
use Rattle.runs.specs.Live.{NoneAt}
use Rattle.dependence.specs.internal.Listed.{Listed, events_kept}
use Rattle.dependence.specs.internal.Tables.{StandsAt}
use Rattle.dependence.proofs.ListedLaws.{none-kept, stands-at}
use Rattle.dependence.proofs.live_list.LiveList.index_of.Goals as goal

pub returns-in_err-place : goal.returns-in_err-place
returns-in_err-place c =
    subst (λ (r : Option ℕ). MatchOption r (NoneAt c.args.self.now.live c.args.ticket) (λ i. StandsAt c.args.self.now.live c.args.ticket i)) (sym c.from_residual.ensures)
    (subst (λ (s : Listed). NoneAt s.live c.args.ticket) c.self.view_is (none-kept c.self.inside.slots.entries c.args.ticket c.in_err-place.ensures))

pub index_at-requires-clause-within : goal.index_at-requires-clause-within
index_at-requires-clause-within c =
    let at = c.in_ok-place.ensures in slice_get_within c.self.inside.slots.entries c.in_ok-place.place (c.args.ticket, Some at.0) at.1

pub returns : goal.returns
returns c =
    let at = c.in_ok-place.ensures in
    subst (λ (s : Listed). StandsAt s.live c.args.ticket c.index_at.result) c.self.view_is (
      at.0.event,
      ap (slice_get (events_kept (filled c.self.inside.slots.entries))) c.index_at.ensures ∙ stands-at c.self.inside.slots.entries c.args.ticket c.in_ok-place.place at.0 at.1,
    )
