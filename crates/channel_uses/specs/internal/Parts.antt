-- The numbers of the uses within each part of a command, as the code keeps them.
-- No reader has to believe it: a part only says where to look, and the contracts of what looks there do not speak of
-- it.
use Rattle.std.specs.Prelude.{◌≡◌, ℕ, ◌+◌, ◌≤◌, ◌<◌, List, [], ◌∷◌, ◌++◌, Bool, Some, length, slice_get, nat_le}
use Rattle.syntax.specs.Lists.{In}
use Rattle.dependence.specs.LastEvents.{Uses}
use Rattle.dependence.specs.declared.uses.UseTable.{UseTable}
use Rattle.process_tree.specs.Code.{Code, continues, halts, moves_once, may_be_held, repeats, decides, awaits, in_turn, side_by_side, drains, Codes, no_code, code, code_at}
use Rattle.channel_uses.specs.Uses.{used, all_used}
use Rattle.channel_uses.specs.declared.part.Part.{Part, out-Part}

-- the number of the first use of a part
abbrev pub first : Part → ℕ
first p = (out-Part p).first

-- that behind its last
abbrev pub end : Part → ℕ
end p = (out-Part p).end

-- the parts of its children or arms
abbrev pub parts : Part → List Part
parts p = (out-Part p).parts

-- the part has the uses from number n on, so many as there are in the list
abbrev pub Spans : ℕ → List ℕ → Part → Type 0
Spans n channels p = (first p ≡ n) × (end p ≡ n + length channels)

abbrev mutual
  -- the part is that of the command whose uses are numbered from n on
  pub IsPart : Code → ℕ → Part → Type 0
  IsPart continues n p = Spans n [] p
  IsPart halts n p = Spans n [] p
  IsPart (moves_once o) n p = Spans n [] p
  IsPart (may_be_held s) n p = Spans n (used (may_be_held s)) p
  IsPart (repeats g c) n p = IsPart c n p
  IsPart (decides d cs) n p = Spans n (all_used cs) p × AreParts cs n (parts p)
  IsPart (awaits ds cs) n p = Spans n (all_used cs) p × AreParts cs n (parts p)
  IsPart (in_turn cs) n p = Spans n (all_used cs) p × AreParts cs n (parts p)
  IsPart (side_by_side cs) n p = Spans n (all_used cs) p × AreParts cs n (parts p)
  IsPart (drains c) n p = Spans n [] p

  -- the parts are those of the commands in the row, the first of which has its uses from number n on
  pub AreParts : Codes → ℕ → List Part → Type 0
  AreParts no_code n ps = ps ≡ []
  AreParts (code c cs) n [] = ⊥
  AreParts (code c cs) n (p ∷ ps) = IsPart c n p × AreParts cs (n + length (used c)) ps

-- uses were added, and the part has them
pub record AddedUses (channels old new : List ℕ) (p : Part) : Type 0 where
  pub added : new ≡ old ++ channels
  pub spans : Spans (length old) channels p

-- the uses of the command were added, and the part is that of the command
pub record Numbered (c : Code) (old new : List ℕ) (p : Part) : Type 0 where
  pub added : new ≡ old ++ used c
  pub is : IsPart c (length old) p

-- the uses of commands in a row were added; the part begins where it is said, ends with them, and has the parts of the
-- commands
pub record NumberedRow (cs : Codes) (from : ℕ) (old new : List ℕ) (p : Part) : Type 0 where
  pub added : new ≡ old ++ all_used cs
  pub begins : first p ≡ from
  pub ends : end p ≡ length new
  pub are : AreParts cs (length old) (parts p)

-- the table has the uses in this list, numbered from n on
abbrev pub InTable : UseTable → ℕ → List ℕ → Type 0
InTable table n channels = (c i : ℕ) → slice_get channels i ≡ Some c → Uses table c (n + i)

-- whether the part ends at the use or before it
abbrev pub ends_before : ℕ → Part → Bool
ends_before u p = nat_le (end p) u

-- the first k parts end at the use or before it, and the next one behind it
pub record EndAt (ps : List Part) (u k : ℕ) : Type 0 where
  pub before : (j : ℕ) (p : Part) → j < k → slice_get ps j ≡ Some p → end p ≤ u
  pub behind : (p : Part) → slice_get ps k ≡ Some p → u < end p

-- the use lies in the part of number k
pub record LiesIn (ps : List Part) (u k : ℕ) : Type 0 where
  pub part : Part
  pub there : slice_get ps k ≡ Some part
  pub from : first part ≤ u
  pub below : u < end part

-- a use of the channel lies there
abbrev pub UsedIn : UseTable → ℕ → List Part → ℕ → Type 0
UsedIn table e ps k = (u : ℕ) × Uses table e u × LiesIn ps u k

-- the commands of a row from number j on and before number k do not use the channel
abbrev pub UnusedBetween : ℕ → Codes → ℕ → ℕ → Type 0
UnusedBetween e cs j k = (i : ℕ) → j ≤ i → i < k → In e (used (code_at cs i)) → ⊥

-- none from number j on does
abbrev pub UnusedFrom : ℕ → Codes → ℕ → Type 0
UnusedFrom e cs j = (i : ℕ) → j ≤ i → In e (used (code_at cs i)) → ⊥
