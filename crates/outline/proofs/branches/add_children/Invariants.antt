use Rattle.std.proofs.Common.{◌≡◌, ◌++◌, drop}
use Rattle.outline.specs.Branches.{of_children}
use Rattle.outline.proofs.branches.add_children.Given as goal

abbrev pub invariant-loop-index : goal.invariant-loop-index
invariant-loop-index l = l.branches ++ of_children l.index (drop l.index l.children) ≡ of_children 0 l.children
