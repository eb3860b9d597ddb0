use Rattle.std.proofs.Common.{drop}
use Rattle.syntax.specs.Lists.{In}
use Rattle.runs.specs.Choices.{choice_of}
use Rattle.dap_moves.proofs.seen.is_seen.Given as goal

-- it is among those that are left, if it is one of all
abbrev pub invariant-loop-choice : goal.invariant-loop-choice
invariant-loop-choice l = In (choice_of l.event) l.seen → In (choice_of l.event) (drop l.choice-index l.seen)
