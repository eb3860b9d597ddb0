-- All that a tidy tree offers, in order.
use Rattle.process_tree.specs.View.{proc_view, tree_view}
use Rattle.local_actions.proofs.PlaceOrder.{in-place-order}
use Rattle.local_actions.proofs.public.Walked.{found-is, offers-exactly, offers-in-order}
use Rattle.local_actions.proofs.actions.actions_of.Goals as goal

pub returns : goal.returns
returns c =
    let found =
    found-is c.args.store.now c.as_slice.result.now (tree_view c.args.tree.now) (proc_view c.root.result.now) c.new-cursor.result c.list.new.cursor c.into_found.result
    c.new-cursor.ensures c.in_ok-list.ensures.actions c.as_slice.ensures c.root.ensures c.into_found.ensures in
    record {
      exactly = λ t. offers-exactly c.args.store.now (tree_view c.args.tree.now) c.into_found.result t found;
      in_order = λ t. in-place-order c.into_found.result (offers-in-order c.args.store.now (tree_view c.args.tree.now) c.into_found.result t found);
      once = λ t. offers-in-order c.args.store.now (tree_view c.args.tree.now) c.into_found.result t found;
    }
