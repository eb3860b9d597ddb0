use Rattle.std.proofs.Common.{◌∙◌, List, ap, sym, subst}
use Rattle.std.specs.Prelude.{slice_get}
use Rattle.rows.specs.Flat.{HoldsIndex}
use Rattle.rows.specs.declared.row.Row.{Row}
use Rattle.rows.proofs.FlatLaws.{got}
use Rattle.rows.proofs.list.Rows.get.Goals as goal

pub returns : goal.returns
returns g c =
    let spot = c.spot_of-spot.result in
    let holds = subst (λ (k : List (Row _)). HoldsIndex k c.args.index spot.number spot.place) c.as_slice.ensures.value c.spot_of-spot.ensures in
    ap (λ (k : List _). slice_get k c.args.index) (sym c.self.view_is)
    ∙ got c.self.inside.rows.items c.args.index spot.number spot.place c.index-row.result.now c.index.result.now holds c.index-row.ensures c.index.ensures
