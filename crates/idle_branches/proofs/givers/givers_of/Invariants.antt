use Rattle.idle_branches.proofs.GiverLemmas.{KnowsFirst}
use Rattle.idle_branches.proofs.givers.givers_of.Given as goal

-- of the branches that were gone through it is known
abbrev pub invariant-loop-branch : goal.invariant-loop-branch
invariant-loop-branch l = KnowsFirst l.branch l.givers.items l.giving
