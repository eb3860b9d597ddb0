-- The uses of channels by a command, which are its sends and syncs in the order of the text, and the tables that are
-- made of them.
use Rattle.std.specs.Prelude.{◌≡◌, ◌↔◌, ℕ, List, [], ◌∷◌, ◌++◌, Some, slice_get}
use Rattle.process_tree.specs.Code.{Code, continues, halts, moves_once, may_be_held, repeats, decides, awaits, in_turn, side_by_side, drains, Codes, no_code, code}
use Rattle.process_tree.specs.Remaining.{channel_of}
use Rattle.dependence.specs.LastEvents.{Uses}
use Rattle.dependence.specs.declared.uses.UseTable.{UseTable}

abbrev mutual
  -- the channels on which a command sends or syncs, in the order of the text, one as often as it does
  pub used : Code → List ℕ
  used continues = []
  used halts = []
  used (moves_once o) = []
  used (may_be_held s) = channel_of s ∷ []
  used (repeats g c) = used c
  used (decides d cs) = all_used cs
  used (awaits ds cs) = all_used cs
  used (in_turn cs) = all_used cs
  used (side_by_side cs) = all_used cs
  used (drains c) = []

  -- the same of commands in a row
  pub all_used : Codes → List ℕ
  all_used no_code = []
  all_used (code c cs) = used c ++ all_used cs

-- exactly the uses in this list are in the table, each with its number, counted from 0
abbrev pub HoldsExactly : UseTable → List ℕ → Type 0
HoldsExactly table channels = (c i : ℕ) → Uses table c i ↔ (slice_get channels i ≡ Some c)
