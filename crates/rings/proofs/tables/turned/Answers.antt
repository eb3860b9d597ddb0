use Rattle.rings.proofs.Edging.{below-more, below-none}
use Rattle.rings.proofs.tables.turned.Goals as goal

pub loop-number-init : goal.loop-number-init
loop-number-init c = below-none c.args.edges.now c.new-nexts.result c.args.limit c.new-nexts.ensures

pub loop-number-preserved : goal.loop-number-preserved
loop-number-preserved c =
    below-more c.args.edges.now c.loop-number.nexts c.turn_row.new.nexts c.args.limit c.loop-number.number c.loop-number.invariant c.in_ok-turn_row.ensures
