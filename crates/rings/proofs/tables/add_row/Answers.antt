use Rattle.std.proofs.Common.{◌∙◌, sym}
use Rattle.std.proofs.lemmas.Result.{on_ok_weaker}
use Rattle.rings.proofs.Edging.{row-none, row-put}
use Rattle.rings.proofs.tables.add_row.Goals as goal

pub returns-in-Some : goal.returns-in-Some
returns-in-Some c =
    on_ok_weaker c.put.result
    (λ h. row-put c.args.waiters.now c.args.place.now c.in-Some.row c.args.number c.in_ok-index.index c.args.above.now c.put.new.self (sym c.row.ensures ∙ c.in-Some.is) c.in_ok-index.ensures h)
    c.put.ensures.put

pub returns-in-None : goal.returns-in-None
returns-in-None c = row-none c.args.waiters.now c.args.place.now c.args.number c.args.above.now (sym c.row.ensures ∙ c.in-None.is)
