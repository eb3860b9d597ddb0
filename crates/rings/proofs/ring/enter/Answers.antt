use Rattle.std.proofs.Common.{◌∙◌, length, refl, sym}
use Rattle.rings.proofs.Trailing.{entered, row-below}
use Rattle.rings.proofs.ring.enter.Goals as goal

pub hold-requires : goal.hold-requires
hold-requires c = λ r is.
    row-below c.args.tables.now.standing c.args.actions.now c.args.index r (length c.args.trail.now.held.items) c.requires.tables c.requires.held (sym c.row_of-row.ensures ∙ is)

pub returns : goal.returns
returns c = entered c.args.tables.now.standing c.args.actions.now c.args.index c.args.trail.now _ c.row_of-row.result c.row_of-row.ensures c.note.ensures refl c.hold.ensures
