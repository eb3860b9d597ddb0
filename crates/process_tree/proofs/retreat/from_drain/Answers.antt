-- An output port before its last receive.
use Rattle.process_tree.specs.View.{out_view}
use Rattle.process_tree.proofs.retreat.from_drain.Goals as goal

pub returns : goal.returns
returns c = c.count_before.ensures c.args.channel c.args.count.now (out_view c.args.out) c.requires
