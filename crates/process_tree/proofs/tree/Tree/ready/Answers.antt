-- What the walk from the root found.
use Rattle.std.proofs.Common.{refl}
use Rattle.process_tree.specs.View.{proc_view, tree_view}
use Rattle.process_tree.proofs.Walked.{ready-exactly, ready-in-order, found-is}
use Rattle.process_tree.proofs.tree.Tree.ready.Goals as goal

pub returns : goal.returns
returns c =
    let found =
    found-is (tree_view c.args.self.now) (proc_view c.args.self.now.proc) c.new-finder.result c.list.new.finder c.into_found.result
    c.new-finder.ensures.entries c.new-finder.ensures.found c.in_ok-list.ensures.offers refl c.into_found.ensures in
    record {
      exactly = ready-exactly (tree_view c.args.self.now) c.into_found.result found;
      in_order = ready-in-order (tree_view c.args.self.now) c.into_found.result found;
    }
