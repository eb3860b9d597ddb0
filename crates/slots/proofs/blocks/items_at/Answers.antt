use Rattle.std.proofs.Common.{◌≡◌, ◌∙◌, ◌+◌, ℕ, suc, Some, None, ap, arith}
use Rattle.slots.specs.Places.{rank}
use Rattle.slots.proofs.public.PlaceLaws.{rank-next, value-at}
use Rattle.slots.proofs.blocks.items_at.Goals as goal

pub returns-in-Some-clause-next : goal.returns-in-Some-clause-next
returns-in-Some-clause-next g c =
    let at = value-at c.args.slots.now.entries c.args.place _ (c.index.ensures ∙ ap (λ o. Some o) c.in-Some.is) in
    let up : rank c.args.slots.now.entries (suc c.args.place) ≡ suc (rank c.args.slots.now.entries c.args.place) = rank-next c.args.slots.now.entries c.args.place (at.0, _) at.1 in
    let next : c.args.place + 1 ≡ suc c.args.place = omega arith in
    ap (λ (k : ℕ). rank c.args.slots.now.entries k) next ∙ up ∙ omega arith

pub returns-in-Some-clause-item : goal.returns-in-Some-clause-item
returns-in-Some-clause-item g c = λ some.
    let at = value-at c.args.slots.now.entries c.args.place _ (c.index.ensures ∙ ap (λ o. Some o) c.in-Some.is) in
    (at.0, _, at.1)

pub returns-in-None-clause-next : goal.returns-in-None-clause-next
returns-in-None-clause-next g c =
    let at = value-at c.args.slots.now.entries c.args.place _ (c.index.ensures ∙ ap (λ o. Some o) c.in-None.is) in
    let up : rank c.args.slots.now.entries (suc c.args.place) ≡ rank c.args.slots.now.entries c.args.place = rank-next c.args.slots.now.entries c.args.place (at.0, None) at.1 in
    let next : c.args.place + 1 ≡ suc c.args.place = omega arith in
    ap (λ (k : ℕ). rank c.args.slots.now.entries k) next ∙ up ∙ omega arith
