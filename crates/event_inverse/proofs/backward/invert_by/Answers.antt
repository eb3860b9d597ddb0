-- What an undo leaves stands for the run without the event; and where the event was the last, it is what stood before it.
use Rattle.std.proofs.Common.{◌≡◌, Some, subst}
use Rattle.process_tree.specs.View.{tree_view}
use Rattle.event_inverse.specs.View.{both_view, inverse_view, removed_view}
use Rattle.event_inverse.specs.declared.record.Removed.{Removed}
use Rattle.event_inverse.specs.internal.Moved.{moved_back}
use Rattle.event_inverse.proofs.Moved.{reverted-by}
use Rattle.event_inverse.proofs.Without.{undone-by, last-undone}
use Rattle.event_inverse.proofs.backward.invert_by.Goals as goal

pub returns-clause-undone : goal.returns-clause-undone
returns-clause-undone c =
    undone-by (both_view c.args.tree.now c.args.store.now) (both_view c.take_back.new.tree c.write_back.new.store) (c.args.event.now, inverse_view c.args.inverse.now)
    (reverted-by (both_view c.args.tree.now c.args.store.now) c.args.event.now (inverse_view c.args.inverse.now) (tree_view c.take_back.new.tree) c.write_back.new.store
    (subst (λ (o : Removed). moved_back (tree_view c.args.tree.now) c.args.event.now (removed_view o) ≡ Some (tree_view c.take_back.new.tree)) c.replace-removed.ensures.value
    c.take_back.ensures) c.write_back.ensures)

pub returns-clause-made_last : goal.returns-clause-made_last
returns-clause-made_last c =
    last-undone (both_view c.args.tree.now c.args.store.now) (both_view c.take_back.new.tree c.write_back.new.store) (c.args.event.now, inverse_view c.args.inverse.now)
    (reverted-by (both_view c.args.tree.now c.args.store.now) c.args.event.now (inverse_view c.args.inverse.now) (tree_view c.take_back.new.tree) c.write_back.new.store
    (subst (λ (o : Removed). moved_back (tree_view c.args.tree.now) c.args.event.now (removed_view o) ≡ Some (tree_view c.take_back.new.tree)) c.replace-removed.ensures.value
    c.take_back.ensures) c.write_back.ensures)
