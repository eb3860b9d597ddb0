use Rattle.std.proofs.Common.{◌∙◌, ◌-◌, length, not, Some, sym, ap, arith}
use Rattle.std.proofs.lemmas.Option.{slice_get_within}
use Rattle.slots.proofs.public.PlaceLaws.{held-none}
use Rattle.slots.proofs.edits.ends_empty.Goals as goal

pub returns-in-Some-clause-yes : goal.returns-in-Some-clause-yes
returns-in-Some-clause-yes g c = λ empty.
    let none = held-none c.in-Some.item.now (c.is_none.ensures ∙ ap not empty) in
    let at = sym c.in-Some.ensures.entry ∙ ap (λ o. Some (c.in-Some.field-0-0.now, o)) none in
    let less = slice_get_within c.args.slots.now.entries (length c.args.slots.now.entries - 1) _ at in
    (length c.args.slots.now.entries - 1, c.in-Some.field-0-0.now, omega arith, at)
