-- The tree, the store and the records of a list of events.
use Rattle.std.specs.Prelude.{◌≡◌, List, [], ◌∷◌, Option, Some, option_map}
use Rattle.std.specs.Option.{option_and_then}
use Rattle.value.specs.Word.{Word}
use Rattle.system.specs.Expression.{Store, get}
use Rattle.system.specs.Translation.{opening_store}
use Rattle.system.specs.declared.system.System.{System}
use Rattle.runs.specs.Moves.{Place}
use Rattle.runs.specs.declared.ask.Ask.{Ask}
use Rattle.runs.specs.Events.{store_after}
use Rattle.runs.specs.Asking.{asked}
use Rattle.runs.specs.Steps.{State, Run, opening}
use Rattle.runs.specs.declared.event.Event.{Event}
use Rattle.process_tree.specs.Proc.{Proc, started}
use Rattle.process_tree.specs.Remaining.{remaining}
use Rattle.process_tree.specs.Translation.{system_code}
use Rattle.process_tree.specs.Advanced.{advanced}

-- what every command has done, and the values of the variables
pub record TreeAndStore : Type 0 where
  pub proc : Proc
  pub store : Store

-- what an event leaves for its undo: what it took out of the tree at each of its places, and the value that it
-- overwrote
pub record Taken : Type 0 where
  pub procs : List (Option Proc)
  pub old : Option Word

-- the state that the tree stands for
abbrev pub state_of_tree : TreeAndStore → State
state_of_tree T = record { residual = remaining [] T.proc; store = T.store }

-- the tree of a system before its first event
abbrev pub opening_tree : System → TreeAndStore
opening_tree system = record { proc = started (system_code system); store = opening_store system }

-- the process after the moves that are asked for in turn, and what each took out
abbrev pub all_advanced : Proc → List (Place × Ask) → Option (Proc × List (Option Proc))
all_advanced p [] = Some (p, [])
all_advanced p (k ∷ ks) =
    option_and_then (λ x. option_map (λ y. (y.0, x.1 ∷ y.1)) (all_advanced x.0 ks)) (advanced p k.0 k.1)

-- the tree and the record after an event, whose moves lead to this process and take these processes out
abbrev pub after_moves : TreeAndStore → Event → Proc × List (Option Proc) → TreeAndStore × Taken
after_moves T e x = (
  record { proc = x.0; store = store_after e T.store },
  record { procs = x.1; old = option_map (get T.store) e.written },
)

-- the tree after an event, and its record, where the moves that the event asks for are possible; its value is taken as
-- it is
abbrev pub applied : TreeAndStore → Event → Option (TreeAndStore × Taken)
applied T e = option_and_then (λ ks. option_map (after_moves T e) (all_advanced T.proc ks)) (asked e)

-- each event with its record
abbrev pub Records : Type 0
Records = List (Event × Taken)

-- the tree after the events of h in their order, and their records
abbrev pub grown : TreeAndStore → List Event → Option (TreeAndStore × Records)
grown T [] = Some (T, [])
grown T (e ∷ h) = option_and_then (λ x. option_map (λ y. (y.0, (e, x.1) ∷ y.1)) (grown x.0 h)) (applied T e)

-- the tree and the records stand for the run of the list h: it runs to the state of the tree, and tree and records are
-- what its events leave, the finished processes as they were left
pub record StandFor (system : System) (h : List Event) (T : TreeAndStore) (records : Records) : Type 0 where
  pub runs : Run (opening system) h (state_of_tree T)
  pub grows : grown (opening_tree system) h ≡ Some (T, records)
