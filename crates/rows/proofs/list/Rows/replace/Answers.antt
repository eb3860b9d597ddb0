use Rattle.std.proofs.Common.{◌∙◌, length, Some, List, ap, sym, refl, subst}
use Rattle.std.specs.Prelude.{slice_get, slice_set}
use Rattle.rows.specs.Flat.{HoldsIndex}
use Rattle.rows.specs.declared.row.Row.{Row}
use Rattle.rows.proofs.FlatLaws.{got, changed, length-changed}
use Rattle.rows.proofs.list.Rows.replace.Goals as goal

pub invariant_of-self : goal.invariant_of-self
invariant_of-self g c =
    let spot = c.spot_of-spot.result in
    let holds = subst (λ (k : List (Row _)). HoldsIndex k c.args.index spot.number spot.place) c.as_slice.ensures.value c.spot_of-spot.ensures in
    let done = changed c.self.inside.rows.items c.args.index spot.number spot.place c.index_mut-row.result.now _ c.replace.new.dest holds c.index_mut-row.ensures.value refl in
    c.self.invariant ∙ sym (ap length done ∙ length-changed _ c.args.index c.replace.new.dest)

pub returns-clause-changed : goal.returns-clause-changed
returns-clause-changed g c =
    let spot = c.spot_of-spot.result in
    let holds = subst (λ (k : List (Row _)). HoldsIndex k c.args.index spot.number spot.place) c.as_slice.ensures.value c.spot_of-spot.ensures in
    let done = changed c.self.inside.rows.items c.args.index spot.number spot.place c.index_mut-row.result.now _ c.replace.new.dest holds c.index_mut-row.ensures.value refl in
    done ∙ ap (λ (k : List _). slice_set k c.args.index c.replace.new.dest) c.self.view_is ∙ ap (slice_set c.args.self.now c.args.index) c.replace.ensures.after

pub returns-clause-item : goal.returns-clause-item
returns-clause-item g c =
    let spot = c.spot_of-spot.result in
    let holds = subst (λ (k : List (Row _)). HoldsIndex k c.args.index spot.number spot.place) c.as_slice.ensures.value c.spot_of-spot.ensures in
    ap (λ (k : List _). slice_get k c.args.index) (sym c.self.view_is)
    ∙ got c.self.inside.rows.items c.args.index spot.number spot.place c.index_mut-row.result.now c.index_mut.result.now holds
    c.index_mut-row.ensures.value c.index_mut.ensures.value
    ∙ ap Some (sym c.replace.ensures.value)
