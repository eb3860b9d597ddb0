use Rattle.std.proofs.Common.{drop, map}
use Rattle.system.specs.Translation.{residual_of}
use Rattle.idle_branches.specs.declared.ends.Ends.{Ends}
use Rattle.idle_branches.specs.internal.Gathered.{AddsParts}
use Rattle.idle_branches.proofs.ends.Ends.add_children.Given as goal

-- with those that are left, all are added
abbrev pub invariant-loop-child : goal.invariant-loop-child
invariant-loop-child l =
    (after : Ends) → AddsParts l.self (map residual_of (drop l.child-index l.children)) after
    → AddsParts l.initial.self (map residual_of l.children) after
