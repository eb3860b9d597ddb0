-- What is finished of a tidy process.
use Rattle.std.proofs.Common.{[], ap, ◌∙◌}
use Rattle.process_tree.specs.View.{proc_view}
use Rattle.local_actions.specs.internal.Listed.{Listing}
use Rattle.local_actions.proofs.public.Walked.{walked}
use Rattle.local_actions.proofs.over.is_over.Goals as goal

pub returns-clause-finished : goal.returns-clause-finished
returns-clause-finished c = λ t. c.over.ensures [] [] ∙ ap (λ (l : Listing). l.over) (walked [] (proc_view c.args.proc.now) t [])
