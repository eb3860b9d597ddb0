-- The laws of a tree with records.
use Rattle.std.specs.Prelude.{◌≡◌, ◌↔◌, List, [], ◌∷◌, ◌++◌, length, Some}
use Rattle.syntax.specs.Lists.{In}
use Rattle.system.specs.declared.system.System.{System}
use Rattle.runs.specs.Dependence.{Directly, Respecting}
use Rattle.runs.specs.Steps.{State, Step, Allowed, Run, opening}
use Rattle.runs.specs.declared.event.Event.{Event}
use Rattle.process_tree.specs.Tidy.{Tidy}
use Rattle.event_inverse.specs.Grown.{TreeAndStore, Taken, state_of_tree, opening_tree, applied, Records, StandFor}
use Rattle.event_inverse.specs.internal.Reverted.{reverted}

-- the tree of a system opens in the state in which the system opens
abbrev pub TreesOpenAlike : Type 0
TreesOpenAlike = (system : System) → state_of_tree (opening_tree system) ≡ opening system

-- a step of the state is made by the tree, which then stands for the state after it
abbrev pub StepsAreApplied : Type 0
StepsAreApplied =
    (T : TreeAndStore) (e : Event) (U : State) → Step (state_of_tree T) e U →
    (x : TreeAndStore × Taken) × (applied T e ≡ Some x) × (state_of_tree x.0 ≡ U)

-- the record of an event takes it back: tree and store are as they were, finished processes included
abbrev pub RecordsRevert : Type 0
RecordsRevert =
    (T : TreeAndStore) (e : Event) (x : TreeAndStore × Taken) → applied T e ≡ Some x → reverted x.0 e x.1 ≡ Some T

-- two events in turn can be made the other way round, to the same tree and with the same records, unless the second
-- depends directly on the first
abbrev pub NeighboursKeepRecords : Type 0
NeighboursKeepRecords =
    (T : TreeAndStore) (e f : Event) (x y : TreeAndStore × Taken) → applied T e ≡ Some x → applied x.0 f ≡ Some y →
    (Directly e f → ⊥) →
    (z : TreeAndStore × Taken) × (applied T f ≡ Some z) × (applied z.0 e ≡ Some (y.0, x.1)) × (z.1 ≡ y.1)

-- a list that runs has a tree and records that stand for it, and the tree stands for the state to which it runs
abbrev pub RunsHaveTrees : Type 0
RunsHaveTrees =
    (system : System) (h : List Event) (U : State) → Run (opening system) h U →
    (T : TreeAndStore) × (records : Records) × StandFor system h T records × (state_of_tree T ≡ U)

-- what stands for a run is at work in one child of each sequence, so that a walk finds all that it offers
abbrev pub RunsAreTidy : Type 0
RunsAreTidy =
    (system : System) (h : List Event) (T : TreeAndStore) (records : Records) → StandFor system h T records →
    Tidy T.proc

-- one more event that is allowed puts its record behind the others
abbrev pub OneMore : Type 0
OneMore =
    (system : System) (h : List Event) (T : TreeAndStore) (records : Records) (e : Event) (x : TreeAndStore × Taken) →
    StandFor system h T records → Allowed (state_of_tree T) e → applied T e ≡ Some x →
    StandFor system (h ++ e ∷ []) x.0 (records ++ (e, x.1) ∷ [])

-- the undo of e, behind h and in front of k: its record leads from T to a tree that stands, with the other records, for
-- the run without e
pub record Undone (system : System) (h k : List Event) (e : Event) (T : TreeAndStore) (records : Records) : Type 0 where
  pub taken : Taken
  pub earlier : Records
  pub later : Records
  pub tree : TreeAndStore
  pub found : records ≡ earlier ++ (e, taken) ∷ later
  pub placed : length earlier ≡ length h
  pub reverts : reverted T e taken ≡ Some tree
  pub stands : StandFor system (h ++ k) tree (earlier ++ later)

-- an event on which no later one depends directly is undone by its record, wherever it stands
abbrev pub UndoneByRecords : Type 0
UndoneByRecords =
    (system : System) (h k : List Event) (e : Event) (T : TreeAndStore) (records : Records) →
    StandFor system (h ++ e ∷ k) T records → ((f : Event) → In f k → Directly e f → ⊥) → Undone system h k e T records

-- r leads from T to U as an undo: where T stands for a run with its event, on which no later one depends directly, U
-- stands for the run without it
abbrev pub UndoneBy : TreeAndStore → Event × Taken → TreeAndStore → Type 0
UndoneBy T r U =
    (system : System) (h k : List Event) (earlier later : Records) →
    StandFor system (h ++ r.0 ∷ k) T (earlier ++ r ∷ later) → length earlier ≡ length h →
    ((f : Event) → In f k → Directly r.0 f → ⊥) → StandFor system (h ++ k) U (earlier ++ later)

-- r leads from T to U as the undo of the last event: where its event was made on S, and left T and this record, U is S
abbrev pub LastUndone : TreeAndStore → Event × Taken → TreeAndStore → Type 0
LastUndone T r U = (S : TreeAndStore) → applied S r.0 ≡ Some (T, r.1) → U ≡ S

-- a respecting order of a run has the same tree and the same records
abbrev pub OrdersHaveOneTree : Type 0
OrdersHaveOneTree =
    (system : System) (h g : List Event) (T : TreeAndStore) (records : Records) → StandFor system h T records →
    Respecting h g →
    (others : Records) × StandFor system g T others × ((r : Event × Taken) → In r records ↔ In r others)
