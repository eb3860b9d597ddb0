-- The first of two moves is taken back where there is no memory for the second.
use Rattle.process_tree.specs.View.{out_view, tree_view}
use Rattle.event_inverse.proofs.Moved.{can-go-back, goes-back}
use Rattle.event_inverse.proofs.moves.make_two.Goals as goal

pub retreat-requires : goal.retreat-requires
retreat-requires c =
    can-go-back (tree_view c.args.tree.now) c.args.first.now c.args.first_ask (tree_view c.advance.new.self, out_view c.in-Ok.out)
    (tree_view c.advance-in-Ok.new.self) c.in-Ok.ensures.made c.in-Err-advance.ensures.without_memory

pub returns-in-Err-advance-clause-without_memory : goal.returns-in-Err-advance-clause-without_memory
returns-in-Err-advance-clause-without_memory c =
    goes-back (tree_view c.args.tree.now) c.args.first.now c.args.first_ask (tree_view c.advance.new.self, out_view c.in-Ok.out)
    (tree_view c.advance-in-Ok.new.self) (tree_view c.retreat.new.self) c.in-Ok.ensures.made c.in-Err-advance.ensures.without_memory c.retreat.ensures.back
