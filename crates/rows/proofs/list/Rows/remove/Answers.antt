use Rattle.std.proofs.Common.{◌≡◌, ◌∙◌, ◌<◌, suc, length, List, ap, sym, subst, arith}
use Rattle.std.specs.List.{remove}
use Rattle.rows.specs.Flat.{flat, HoldsIndex}
use Rattle.rows.specs.declared.row.Row.{Row}
use Rattle.rows.proofs.FlatLaws.{length-removed}
use Rattle.rows.proofs.list.Rows.remove.Goals as goal

pub invariant_of-self : goal.invariant_of-self
invariant_of-self g c =
    let spot = c.spot_of-spot.result in
    let holds = subst (λ (k : List (Row _)). HoldsIndex k c.args.index spot.number spot.place) c.as_slice.ensures.value c.spot_of-spot.ensures in
    let is : flat c.take_out.new.rows.items ≡ remove (flat c.self.inside.rows.items) c.args.index = c.take_out.ensures.taken c.args.index holds in
    let within : c.args.index < length (flat c.self.inside.rows.items) = subst (λ (k : List _). c.args.index < length k) (sym c.self.view_is) c.requires in
    let size : suc (length (flat c.take_out.new.rows.items)) ≡ length (flat c.self.inside.rows.items) =
    ap (λ (k : List _). suc (length k)) is ∙ length-removed (flat c.self.inside.rows.items) c.args.index within in
    let count = c.self.invariant in
    omega arith
