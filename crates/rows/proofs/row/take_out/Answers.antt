use Rattle.rows.specs.declared.row.Row.{Row}
use Rattle.rows.proofs.FlatLaws.{taken-out, got}
use Rattle.rows.proofs.row.take_out.Goals as goal

pub returns-clause-taken : goal.returns-clause-taken
returns-clause-taken g c = λ index h.
    let q : Row _ = record { items = c.remove-item.new.self } in
    taken-out c.args.rows.now.items c.close_up.new.rows.items index c.args.number c.args.place c.index_mut-row.result.now q h c.index_mut-row.ensures.value
    c.remove-item.ensures.items c.close_up.ensures.before c.close_up.ensures.behind

pub returns-clause-item : goal.returns-clause-item
returns-clause-item g c = λ index h.
    got c.args.rows.now.items index c.args.number c.args.place c.index_mut-row.result.now c.remove-item.result h c.index_mut-row.ensures.value c.remove-item.ensures.value
