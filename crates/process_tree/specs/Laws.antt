-- The laws of the tree.
use Rattle.std.specs.Prelude.{◌≡◌, ◌↔◌, [], true, Option, Some}
use Rattle.address.specs.Places.{Before}
use Rattle.system.specs.Residual.{Residual, done}
use Rattle.system.specs.Translation.{residual_of, opening_residual}
use Rattle.system.specs.declared.command.Command.{Command}
use Rattle.system.specs.declared.system.System.{System}
use Rattle.runs.specs.Moves.{Place, Move, Local}
use Rattle.runs.specs.Asking.{ask_of}
use Rattle.runs.specs.declared.ask.Ask.{Ask}
use Rattle.runs.specs.WellFormed.{WellFormed}
use Rattle.process_tree.specs.Code.{Code}
use Rattle.process_tree.specs.Proc.{Proc, started, finished}
use Rattle.process_tree.specs.Advanced.{Moved, advanced}
use Rattle.process_tree.specs.Retreated.{retreated}
use Rattle.process_tree.specs.Remaining.{Received, puts, residual, remaining}
use Rattle.process_tree.specs.Translation.{code_of, system_code}

-- two moves made the other way round lead to the same, and each takes out what it took out
abbrev pub Swapped : {Y : Type 0} → (Y → Place → Ask → Option (Y × Option Proc)) → Y → Place → Ask → Y × Option Proc →
    Place → Ask → Y × Option Proc → Type 0
Swapped {Y = Y} step p a k x b l y =
    (z : Y × Option Proc) × (step p b l ≡ Some z) × (step z.0 a k ≡ Some (y.0, x.1)) × (z.1 ≡ y.1)

-- what is left of any process is well formed
abbrev pub LeftIsFormed : Type 0
LeftIsFormed = (p : Proc) (env : Received) → WellFormed (remaining env p)

-- a command that has made no move has all left, with the received values put
abbrev pub StartedHasAllLeft : Type 0
StartedHasAllLeft = (c : Code) (env : Received) → remaining env (started c) ≡ puts env (residual c)

-- a process is finished exactly where nothing is left of it
abbrev pub FinishedIsDone : Type 0
FinishedIsDone = (p : Proc) (env : Received) → (finished p ≡ true) ↔ (remaining env p ≡ done)

-- a local move that what is left offers is made by the tree, and leaves what it leads to
abbrev pub OffersAreMade : Type 0
OffersAreMade =
    (p : Proc) (env : Received) (a : Place) (m : Move) (q : Residual) → Local (remaining env p) a m q →
    (x : Moved) × (advanced p a (ask_of m) ≡ Some x) × (remaining env x.0 ≡ q)

-- a move that the tree makes is a local move that what is left offers, and it answers to what was asked
abbrev pub MadeAreOffered : Type 0
MadeAreOffered =
    (p : Proc) (env : Received) (a : Place) (k : Ask) (x : Moved) → advanced p a k ≡ Some x →
    (m : Move) × Local (remaining env p) a m (remaining env x.0) × (ask_of m ≡ k)

-- p becomes q by a local move that what is left of p offers at the place, whatever was received around it; it answers to
-- what was asked
abbrev pub ByLocalMove : Proc → Place → Ask → Proc → Type 0
ByLocalMove p a k q = (env : Received) → (m : Move) × Local (remaining env p) a m (remaining env q) × (ask_of m ≡ k)

-- a move taken back, with what it took out, gives the same process, finished processes included
abbrev pub MovesGoBack : Type 0
MovesGoBack = (p : Proc) (a : Place) (k : Ask) (x : Moved) → advanced p a k ≡ Some x → retreated x.0 a x.1 ≡ Some p

-- two moves in turn can be made the other way round, unless the place of the first is before that of the second
abbrev pub MovesSwap : Type 0
MovesSwap =
    (p : Proc) (a : Place) (k : Ask) (x : Moved) (b : Place) (l : Ask) (y : Moved) →
    advanced p a k ≡ Some x → advanced x.0 b l ≡ Some y → (Before a b → ⊥) → Swapped advanced p a k x b l y

-- a command of the tree is to do what the command of the system is to do
abbrev pub CommandsAgree : Type 0
CommandsAgree = (c : Command) → residual (code_of c) ≡ residual_of c

-- of the tree of a system that has made no move is left what the system opens with
abbrev pub SystemsOpenAlike : Type 0
SystemsOpenAlike = (system : System) → remaining [] (started (system_code system)) ≡ opening_residual system
