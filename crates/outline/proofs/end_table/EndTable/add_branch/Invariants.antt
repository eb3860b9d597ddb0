use Rattle.std.proofs.Common.{◌≡◌, ℕ, drop}
use Rattle.outline.specs.EndTable.{row_of, with_ends}
use Rattle.outline.proofs.end_table.EndTable.add_branch.Given as goal

-- with the ends that are left, the rows are those of all
abbrev pub invariant-loop-end : goal.invariant-loop-end
invariant-loop-end l =
    (c : ℕ) → with_ends c l.branch.number (drop l.end-index l.branch.ends) (row_of l.self c)
    ≡ with_ends c l.branch.number l.branch.ends (row_of l.initial.self c)
