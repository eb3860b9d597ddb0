use Rattle.std.proofs.Common.{refl}
use Rattle.process_tree.specs.View.{proc_view, tree_view}
use Rattle.channel_uses.proofs.Locations.{whole-located}
use Rattle.channel_uses.proofs.OnWalks.{offered-on}
use Rattle.channel_uses.proofs.Processes.{tree-located}
use Rattle.channel_uses.proofs.table.ChannelUses.partners_on.Goals as goal

pub returns : goal.returns
returns c = λ code table stems tidy.
    offered-on c.args.channel c.args.store.now c.as_slice-values.result.now (tree_view c.args.tree.now) (proc_view c.root.result.now) c.new-cursor.result c.list_on.new.cursor c.into_found.result
    tidy c.new-cursor.ensures
    (c.in_ok-list_on.ensures (tree-located _ _ code (tree_view c.args.tree.now) (proc_view c.root.result.now) (whole-located code c.args.self.now _ refl table) c.root.ensures stems))
    c.as_slice-values.ensures c.root.ensures c.into_found.ensures
