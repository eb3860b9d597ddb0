-- The move is a local one.
use Rattle.std.proofs.lemmas.Result.{IfOk-weaker}
use Rattle.process_tree.specs.View.{tree_view}
use Rattle.process_tree.proofs.public.Simulation.{did}
use Rattle.process_tree.proofs.tree.Tree.advance.Goals as goal

pub returns-clause-local_move : goal.returns-clause-local_move
returns-clause-local_move c =
    IfOk-weaker c.advance.result _ _ (λ out h env. did (tree_view c.args.self.now) env c.args.place.now _ _ h) c.advance.ensures.ok
