-- The branch of this number.
use Rattle.process_tree.proofs.Lent.{branch-lent}
use Rattle.process_tree.proofs.part.branch_mut.Goals as goal

pub returns : goal.returns
returns c = branch-lent c.args.procs.now c.args.number c.get_mut.result c.get_mut.ensures.variant c.get_mut.ensures.value
