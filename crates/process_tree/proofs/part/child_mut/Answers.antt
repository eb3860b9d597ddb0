-- The branch of a parallel.
use Rattle.std.proofs.Common.{vec_items, option_map, sym, ap, subst}
use Rattle.address.specs.declared.Entry.TheVariants.{Branch}
use Rattle.process_tree.specs.View.{proc_view}
use Rattle.process_tree.specs.internal.Lending.{IsLent}
use Rattle.process_tree.proofs.Lent.{lent-as}
use Rattle.process_tree.proofs.public.Forms.{parallel-seen}
use Rattle.process_tree.proofs.part.child_mut.Goals as goal

pub returns-in-Parallel : goal.returns-in-Parallel
returns-in-Parallel c =
    subst (λ e. IsLent e (proc_view c.args.proc.now) (option_map (λ part. proc_view part.now) c.branch_mut.result)) (sym c.in-Branch.is)
    (lent-as (Branch c.in-Branch.number) _ _ _ (parallel-seen c.args.proc.now _ _ c.in-Parallel.is (ap vec_items c.in-Parallel.procs-is)) c.branch_mut.ensures)
