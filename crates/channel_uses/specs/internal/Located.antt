-- That the uses of a command are in the table, numbered as its part says; and what a walk for one channel finds.
-- No reader has to believe it: of what the table of a system holds, `HoldsExactly` of `Uses.antt` says all.
use Rattle.std.specs.Prelude.{◌≡◌, ℕ, ◌+◌, ◌≤◌, ◌<◌, List, Option, Some, IfSome, length, slice_get}
use Rattle.std.specs.Borrow.{Bor}
use Rattle.address.specs.declared.Entry.{Entry}
use Rattle.system.specs.Expression.{Store}
use Rattle.process_tree.specs.Code.{Code, Codes, code_at}
use Rattle.process_tree.specs.Proc.{Proc, Procs}
use Rattle.dependence.specs.declared.uses.UseTable.{UseTable}
use Rattle.local_actions.specs.Walk.{Walk, added}
use Rattle.local_actions.specs.internal.Listed.{behind, listed}
use Rattle.channel_uses.specs.OnChannel.{on}
use Rattle.channel_uses.specs.StemsFrom.{StemsFrom, AllStemFrom}
use Rattle.channel_uses.specs.Uses.{used, all_used}
use Rattle.channel_uses.specs.internal.Parts.{parts, end, IsPart, AreParts, InTable}
use Rattle.channel_uses.specs.declared.part.Part.{Part}

-- the part, where it is known, is that of the command, and all of the command's uses are in the table
pub record LocatedCode (table : UseTable) (part : Option (Bor Part)) (c : Code) : Type 0 where
  pub number : ℕ
  pub told : InTable table number (used c)
  pub is : IfSome part (λ q. IsPart c number q.now)

-- the part, where it is known, has those of the commands in the row, and all of their uses are in the table
pub record LocatedRow (table : UseTable) (part : Option (Bor Part)) (cs : Codes) : Type 0 where
  pub number : ℕ
  pub told : InTable table number (all_used cs)
  pub are : IfSome part (λ q. AreParts cs number (parts q.now) × (end q.now ≡ number + length (all_used cs)))

-- the process stems from a command whose uses are in the table, and the part, where it is known, is that of the command
pub record LocatedProc (table : UseTable) (part : Option (Bor Part)) (p : Proc) : Type 0 where
  pub code : Code
  pub located : LocatedCode table part code
  pub stems : StemsFrom p code

-- the same of processes in a row
pub record LocatedProcs (table : UseTable) (part : Option (Bor Part)) (ps : Procs) : Type 0 where
  pub codes : Codes
  pub located : LocatedRow table part codes
  pub stem : AllStemFrom ps codes

-- the rows have the same commands from number k on
abbrev pub AgreeFrom : ℕ → Codes → Codes → Type 0
AgreeFrom k cs ds = (i : ℕ) → k ≤ i → code_at cs i ≡ code_at ds i

-- no arm from number j on and before number k waits on the channel
abbrev pub NoneBetween : ℕ → List ℕ → ℕ → ℕ → Type 0
NoneBetween e ds j k = (i : ℕ) → j ≤ i → i < k → slice_get ds i ≡ Some e → ⊥

-- what is found on a channel of a process
abbrev pub finds : ℕ → Store → Proc → Walk → Walk
finds e s p w = added (on e (listed s w.received p).actions) w

-- of one at this entry
abbrev pub finds_at : Entry → ℕ → Store → Proc → Walk → Walk
finds_at x e s p w = added (behind x (on e (listed s w.received p).actions)) w
