use Rattle.std.proofs.Common.{◌≡◌, ◌∙◌, ℕ, Option, Some, sym, ap, subst}
use Rattle.std.specs.Prelude.{MatchOption}
use Rattle.slots.specs.Places.{NoneOf, IsOf}
use Rattle.slots.proofs.public.PlaceLaws.{absent-none, key-passes, empty-absent, held-some, held-none}
use Rattle.slots.proofs.tickets.look_up.Goals as goal

pub returns-in_err-place : goal.returns-in_err-place
returns-in_err-place g c =
    subst (λ (r : Option ℕ). MatchOption r (NoneOf c.args.slots.now.entries c.args.ticket) (λ place. IsOf c.args.slots.now.entries c.args.ticket place))
    (sym c.from_residual.ensures) (λ x i. absent-none c.args.ticket c.args.slots.now.entries x (sym c.in_err-place.ensures.value) i)

pub returns-then-is_some : goal.returns-then-is_some
returns-then-is_some g c =
    let key : c.in_ok-place.field-0-1.now ≡ c.args.ticket = key-passes c.args.ticket c.args.slots.now.entries c.in_ok-place.field-0-1.now (sym c.in_ok-place.ensures.key) in
    let held = held-some c.in_ok-place.item.now (sym c.is_some.ensures ∙ c.if-is_some.true) in
    (held.0, c.in_ok-place.ensures.entry ∙ ap (λ (k : ℕ). Some (k, c.in_ok-place.item.now)) key ∙ ap (λ o. Some (c.args.ticket, o)) held.1)

pub returns-else-is_some : goal.returns-else-is_some
returns-else-is_some g c = λ x i.
    let key : c.in_ok-place.field-0-1.now ≡ c.args.ticket = key-passes c.args.ticket c.args.slots.now.entries c.in_ok-place.field-0-1.now (sym c.in_ok-place.ensures.key) in
    let held = held-none c.in_ok-place.item.now (sym c.is_some.ensures ∙ c.if-is_some.false) in
    empty-absent 0 c.args.slots.now.entries c.in_ok-place.place c.args.ticket x c.requires
    (c.in_ok-place.ensures.entry ∙ ap (λ (k : ℕ). Some (k, c.in_ok-place.item.now)) key ∙ ap (λ o. Some (c.args.ticket, o)) held) i
