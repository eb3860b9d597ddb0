use Rattle.std.proofs.Common.{◌≡◌, ℕ, drop}
use Rattle.outline.specs.EndTable.{row_of, with_branches}
use Rattle.outline.proofs.end_table.EndTable.add_branches.Given as goal

-- with the branches that are left, the rows are those of all
abbrev pub invariant-loop-branch : goal.invariant-loop-branch
invariant-loop-branch l =
    (c : ℕ) → with_branches c (drop l.branch-index l.branches) (row_of l.self c)
    ≡ with_branches c l.branches (row_of l.initial.self c)
