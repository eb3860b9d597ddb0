-- What was passed on the way along a sequence or along branches.
-- No reader has to believe it: the proofs of `residual_tree` and `offers` tie it to `put_residual` and `after`.
use Rattle.std.specs.Prelude.{ℕ, Bool, true, false, List, [], ◌∷◌, is_none}
use Rattle.system.specs.Residual.{Residual, inside, beside, along}
use Rattle.runs.specs.Moves.{Place}
use Rattle.runs.specs.internal.Below.{below_branch}
use Rattle.calculus.specs.ResidualTree.{residual_of_tree}
use Rattle.calculus.specs.declared.residual_tree.ResidualTree.{ResidualTree}
use Rattle.calculus.specs.declared.residual_tree.Passed.{Passed}
use Rattle.calculus.specs.declared.residual_tree.Passed.TheVariants.{InOrder, InBranch}

-- the child that was passed, and the rest behind it
abbrev pub before : Passed → Residual → Residual
before (InOrder i child) rest = inside i (residual_of_tree child) rest
before (InBranch k child) rest = beside k (residual_of_tree child) rest

-- all that were passed, and the rest behind them
abbrev pub behind : List Passed → Residual → Residual
behind [] rest = rest
behind (p ∷ ps) rest = before p (behind ps rest)

-- whether something may stand behind a child
abbrev pub goes_on : Residual → Bool
goes_on (inside i child next) = true
goes_on (beside k child rest) = true
goes_on _ = false

-- the branches that were passed, and the rest beside them; a finished branch is erased
abbrev pub along_all : List (ℕ × ResidualTree) → Residual → Residual
along_all [] rest = rest
along_all (p ∷ ps) rest = along p.0 (residual_of_tree p.1) (along_all ps rest)

-- whether this is a branch in which the place is not, beside others
abbrev pub is_passed : Place → Residual → Bool
is_passed a (beside k child rest) = is_none (below_branch k a)
is_passed a _ = false
