use Rattle.std.proofs.Common.{[], ◌∷◌, ◌++◌, map, refl, ap, ◌∙◌}
use mathlib.Core.Option.{some}
use Rattle.locked_object.proofs.shared.cell_of.Goals as goal

pub new-requires : goal.new-requires
new-requires g c =
    (_, refl, (c.args.keeper, ap (map some) (c.push_reserved.ensures.items ∙ ap (λ l. l ++ c.args.keeper ∷ []) c.in_ok-slots.ensures.items), c.requires))
