-- The tree from before the move.
use Rattle.std.proofs.Common.{sym, ◌∙◌}
use Rattle.runs.proofs.public.Options.{some-injective}
use Rattle.process_tree.proofs.public.Back.{back}
use Rattle.process_tree.proofs.tree.Tree.retreat.Goals as goal

pub returns-clause-just_made : goal.returns-clause-just_made
returns-clause-just_made c = λ before asked h. some-injective _ before (sym c.retreat.ensures ∙ back before _ asked _ h)
