use Rattle.std.proofs.Common.{◌≡◌, List, Some, sym, ap, ◌∙◌, true≢false}
use Rattle.address.specs.declared.Entry.{Entry}
use Rattle.runs.specs.Events.{acting}
use Rattle.runs.proofs.public.Options.{some-injective}
use Rattle.runs.proofs.public.Sameness.{same_event-decides}
use Rattle.calculus.specs.internal.Comparing.{place_at}
use Rattle.calculus.proofs.IndexLaws.{there}
use Rattle.calculus.proofs.ListPlaces.{item-got, one-acts, got-in}
use Rattle.calculus.proofs.alike.place_of.Goals as goal

pub returns-then-equals : goal.returns-then-equals
returns-then-equals c =
    let got = item-got c.args.events.now c.in_ok-place.place c.in_ok-held.held.now c.in_ok-held.ensures.lookup.3.0 c.in_ok-held.ensures.lookup.1 in
    let same : c.in_ok-held.held.now ≡ c.args.event.now =
    (same_event-decides c.in_ok-held.held.now c.args.event.now).0 (sym c.equals.ensures ∙ c.if-equals.true) in
    got ∙ ap (λ e. Some e) same

pub returns-else-equals : goal.returns-else-equals
returns-else-equals c = λ i.
    let got = item-got c.args.events.now c.in_ok-place.place c.in_ok-held.held.now c.in_ok-held.ensures.lookup.3.0 c.in_ok-held.ensures.lookup.1 in
    let at : place_at c.args.index.now (acting c.args.event.now) ≡ Some c.in_ok-place.place =
    ap (λ (a : List Entry). place_at c.args.index.now a) (sym c.acting_place.ensures) ∙ sym c.place.ensures ∙ c.in_ok-place.was in
    let found = there c.args.index.now c.args.events.now c.args.event.now c.in_ok-place.place c.requires.indexes at in
    let held : c.in_ok-held.held.now ≡ found.0 = some-injective c.in_ok-held.held.now found.0 (sym got ∙ found.1) in
    let is : c.in_ok-held.held.now ≡ c.args.event.now =
    one-acts c.args.events.now c.in_ok-held.held.now c.args.event.now c.requires.once
    (got-in c.args.events.now c.in_ok-place.place c.in_ok-held.held.now got) i (ap acting held ∙ found.2) in
    true≢false (sym ((same_event-decides c.in_ok-held.held.now c.args.event.now).1 is) ∙ sym c.equals.ensures ∙ c.if-equals.false)
