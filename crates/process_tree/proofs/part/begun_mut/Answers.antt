-- The child of this number, where it has begun.
use Rattle.std.proofs.Common.{arith}
use Rattle.process_tree.proofs.Lent.{begun-lent, past-row}
use Rattle.process_tree.proofs.part.begun_mut.Goals as goal

pub returns-then-number-len : goal.returns-then-number-len
returns-then-number-len c =
    past-row c.args.begun.now.items c.args.row.now c.args.number (omega (arith, c.if-number-len.true, c.len.ensures))

pub returns : goal.returns
returns c =
    begun-lent c.args.begun.now c.args.row.now c.args.number c.get_mut.result (omega (arith, c.if-number-len.false, c.len.ensures))
    c.get_mut.ensures.variant c.get_mut.ensures.value
