use Rattle.std.proofs.Common.{take, arith, refl}
use Rattle.std.proofs.lemmas.Result.{on_ok_weaker}
use Rattle.rings.proofs.Edging.{AtPrefix, added-none, prefix-all, prefix-more, prefix-none}
use Rattle.rings.proofs.tables.add_rows.Goals as goal

pub loop-length-init : goal.loop-length-init
loop-length-init c = added-none c.args.above.now c.args.number (AtPrefix c.args.waiters.now c.args.place.now 0) (prefix-none c.args.waiters.now c.args.place.now)

pub loop-length-preserved : goal.loop-length-preserved
loop-length-preserved c =
    prefix-more c.args.waiters.now c.args.place.now (take c.loop-length.length c.args.place.now) c.loop-length.length c.args.number c.args.above.now c.loop-length.above c.add_row.new.above
    refl c.loop-length.invariant c.in_ok-add_row.ensures

pub returns : goal.returns
returns c =
    on_ok_weaker c.add_row-2.result
    (λ h. prefix-all c.args.waiters.now c.args.place.now c.loop-length.length c.args.number c.args.above.now c.loop-length.above c.add_row-2.new.above (omega arith) (omega arith)
    c.loop-length.invariant h) c.add_row-2.ensures
