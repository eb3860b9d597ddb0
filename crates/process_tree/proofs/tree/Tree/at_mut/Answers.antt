-- One step down, or none.
use Rattle.std.proofs.Common.{◌≡◌, ◌+◌, drop, get_or, None, arith}
use Rattle.address.specs.declared.Entry.TheVariants.{Ordered}
use Rattle.process_tree.specs.View.{proc_view, tree_view}
use Rattle.process_tree.proofs.Lent.{next-entry, step-down, no-step}
use Rattle.process_tree.proofs.tree.Tree.at_mut.Goals as goal

pub returns-in_err-target : goal.returns-in_err-target
returns-in_err-target c =
    let l = c.loop-entry in
    let items = c.entries-entry-items.result.now in
    let whole = tree_view c.args.self.now in
    let here = next-entry c.args.place.now whole items l.entry-index (proc_view l.target.now) (omega arith) l.invariant.0 in
    let gone : c.from_residual.result ≡ None = grind arith in
    rw gone (
    record {
      lent = tt;
      none = no-step c.args.place.now whole (get_or items l.entry-index (Ordered 0)) (drop (l.entry-index + 1) items) (proc_view l.target.now) here c.in_err-target.ensures;
    }
    )

pub loop-entry-preserved : goal.loop-entry-preserved
loop-entry-preserved c =
    let l = c.loop-entry in
    let items = c.entries-entry-items.result.now in
    let whole = tree_view c.args.self.now in
    let here = next-entry c.args.place.now whole items l.entry-index (proc_view l.target.now) (omega arith) l.invariant.0 in (
      step-down c.args.place.now whole (get_or items l.entry-index (Ordered 0)) (drop (l.entry-index + 1) items) (proc_view l.target.now) (proc_view c.in_ok-target.field-0.now) here
          c.in_ok-target.ensures,
      l.invariant.1,
    )
