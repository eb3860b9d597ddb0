use Rattle.std.proofs.Common.{◌∙◌, ◌++◌, ◌∷◌, [], ap}
use Rattle.rows.specs.Flat.{flat}
use Rattle.rows.specs.declared.row.Row.{Row}
use Rattle.rows.proofs.FlatLaws.{flat-more}
use Rattle.rows.proofs.row.push_row.Goals as goal

pub returns-in-Ok-clause-pushed : goal.returns-in-Ok-clause-pushed
returns-in-Ok-clause-pushed g c =
    let q : Row _ = record { items = c.push_reserved.new.self } in
    ap flat (c.push_reserved-in-Ok.ensures.items ∙ ap (λ k. k ++ q ∷ []) c.reserve.ensures.items)
    ∙ flat-more c.args.rows.now.items q c.args.item (c.push_reserved.ensures.items ∙ ap (λ k. k ++ c.args.item ∷ []) c.in-Ok.ensures.items)
