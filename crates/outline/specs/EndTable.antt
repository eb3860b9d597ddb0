-- The ends of a channel with the branches that use it: those of all branches in order of their numbers, of each branch
-- in the order of the source.
use Rattle.std.specs.Prelude.{◌≡◌, ◌==◌, ℕ, List, [], ◌∷◌, ◌++◌, cond, slice_index_or}
use Rattle.system.specs.declared.system.System.{System}
use Rattle.outline.specs.Branches.{branches_of}
use Rattle.outline.specs.declared.branches.BranchEntry.{BranchEntry}
use Rattle.outline.specs.declared.end_table.BranchEnd.{BranchEnd}
use Rattle.outline.specs.declared.end_table.EndTable.{EndTable}
use Rattle.outline.specs.declared.ends.End.{End}

-- those of channel c so far, and an end of branch k behind them if it is one of c
abbrev pub with_end : ℕ → ℕ → End → List BranchEnd → List BranchEnd
with_end c k e ends = cond (e.channel == c) (ends ++ record { branch = k; end = e } ∷ []) ends

-- those of channel c so far, and those among the ends of branch k behind them
abbrev pub with_ends : ℕ → ℕ → List End → List BranchEnd → List BranchEnd
with_ends c k [] ends = ends
with_ends c k (e ∷ es) ends = with_ends c k es (with_end c k e ends)

-- those of channel c so far, and those of these branches behind them
abbrev pub with_branches : ℕ → List BranchEntry → List BranchEnd → List BranchEnd
with_branches c [] ends = ends
with_branches c (b ∷ bs) ends = with_branches c bs (with_ends c b.number b.ends ends)

-- those of channel c
abbrev pub ends_on : System → ℕ → List BranchEnd
ends_on system c = with_branches c (branches_of system) []

-- the row of a channel: none behind the last row
abbrev pub row_of : EndTable → ℕ → List BranchEnd
row_of table c = slice_index_or table.rows.items c []

-- the table has the ends of each channel
abbrev pub HasEnds : System → EndTable → Type 0
HasEnds system table = (c : ℕ) → row_of table c ≡ ends_on system c
