-- The record of an event takes it back.
use Rattle.process_tree.specs.View.{tree_view}
use Rattle.event_inverse.specs.View.{both_view, removed_view}
use Rattle.event_inverse.proofs.Moved.{applied-by}
use Rattle.event_inverse.proofs.public.Neighbours.{reverts}
use Rattle.event_inverse.proofs.forward.apply_by.Goals as goal

pub returns-in-Ok-clause-back : goal.returns-in-Ok-clause-back
returns-in-Ok-clause-back c =
    reverts (both_view c.args.tree.now c.args.store.now) c.args.event.now
    (both_view c.make.new.tree c.write-overwritten.new.store, record { procs = removed_view c.in-Ok.removed; old = c.write-overwritten.result })
    (applied-by (both_view c.args.tree.now c.args.store.now) c.args.event.now (tree_view c.make.new.tree, removed_view c.in-Ok.removed) c.write-overwritten.new.store
    c.write-overwritten.result c.in-Ok.ensures.made c.write-overwritten.ensures.written c.write-overwritten.ensures.old)
