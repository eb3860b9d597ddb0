-- What follows from the definitions, each a clause of the contract of a function in `src/laws.rt`.
use Rattle.std.specs.Prelude.{◌≡◌, ℕ, ◌++◌, List, [], ◌∷◌, Some, map, length, slice_get}
use Rattle.elaborate.specs.Body.{part_of}
use Rattle.elaborate.specs.Copies.{numbers_behind}
use Rattle.elaborate.specs.Elaboration.{root_ports, port_channels, root_copies, main_of, system_of, IsAccepted}
use Rattle.elaborate.specs.Environment.{branch_on}
use Rattle.elaborate.specs.Fit.{entry_named}
use Rattle.elaborate.specs.Places.{places_of}
use Rattle.elaborate.specs.SameShape.{Standing, SameCommand, HasLocals, IsPort, numbers_from}
use Rattle.elaborate.specs.Size.{system_size}
use Rattle.elaborate.specs.SourcePlaces.{root_places}
use Rattle.elaborate.specs.SourceSize.{source_size}
use Rattle.elaborate.specs.declared.stimulus.Entry.{Entry}
use Rattle.syntax.specs.Lists.{In, Every}
use Rattle.syntax.specs.Texts.{Text}
use Rattle.system.specs.Named.{channel_name_at}
use Rattle.system.specs.declared.system.System.{System}
use Rattle.types.specs.declared.tree.Port.{Port}
use Rattle.types.specs.declared.tree.Procedure.{Procedure}

-- no two of the names are equal
abbrev pub Distinct : List Text → Type 0
Distinct [] = Unit {0}
Distinct (name ∷ names) = (¬ In name names) × Distinct names

-- the names that a procedure declares
abbrev pub declared_names : Procedure → List Text
declared_names p = map (λ q. q.name) p.ports ++ map (λ l. l.name) p.locals

-- they are distinct, and no `:` stands in one
abbrev pub HasOwnNames : Procedure → Type 0
HasOwnNames p = Distinct (declared_names p) × Every (λ name. ¬ In 58 name) (declared_names p)

-- the names of a system: of its variables and of its channels
abbrev pub names_of_system : System → List Text
names_of_system system = map (λ v. v.name) system.variables ++ map (λ c. c.name) system.channels

-- the names of an accepted system are distinct
abbrev pub NamesAreDistinct : Type 0
NamesAreDistinct = (ps : List Procedure) (entries : List Entry) →
    Every HasOwnNames ps → IsAccepted ps entries → Distinct (names_of_system (system_of ps entries))

-- the environment has a branch for each port, in the order of the ports: the branch at a place is that of the port
-- there, on the channel of this number, which goes by the name of the port
abbrev pub BranchesAreInPortOrder : Type 0
BranchesAreInPortOrder = (ps : List Procedure) (entries : List Entry) →
    (length (system_of ps entries).environment ≡ length (root_ports ps))
    × ((place : ℕ) (port : Port) → slice_get (root_ports ps) place ≡ Some port →
    (slice_get (system_of ps entries).environment place
    ≡ Some (branch_on place port.kind (entry_named entries port.name)))
    × (channel_name_at (system_of ps entries).channels place ≡ Some port.name))

-- A root without calls is itself, whatever procedures stand before it: copies are made of its own locals alone, under
-- their own names, and its body has numbers for its names and no other body in it.
abbrev pub WithoutCallsIsItself : Type 0
WithoutCallsIsItself = (earlier : List Procedure) (p : Procedure) → (part_of p.body).calls ≡ [] →
    (root_copies (earlier ++ p ∷ []) ≡ p.locals)
    × (main_of (earlier ++ p ∷ [])
    ≡ (part_of p.body).becomes (record {
      ports = numbers_behind [] (port_channels (earlier ++ p ∷ []));
      locals = numbers_behind (port_channels (earlier ++ p ∷ [])) p.locals;
    }) [])

-- What the system of a description is, by cases: its main part is the body of the root, each command one of the same
-- form on the same line, each name the number of the variable or channel that it stands for, and each call the body of
-- its procedure over locals of its own. The channels of the root's ports are the first ones, in order.
abbrev pub KeepsItsShape : Type 0
KeepsItsShape = (earlier : List Procedure) (p : Procedure) (entries : List Entry) →
    let system = system_of (earlier ++ p ∷ []) entries in
    let root : Standing = record { earlier = earlier; procedure = p; prefix = []; ports = numbers_from 0 p.ports } in
    ((place : ℕ) (q : Port) → slice_get p.ports place ≡ Some q →
    IsPort q.name q.declared q.kind (slice_get system.channels place))
    × HasLocals system root × ((calls : ℕ) × SameCommand system root 0 p.body calls system.main)

-- A call adds no entry to a place: the places of the commands of a system are those of its source where the body of a
-- procedure stands at the place of its call.
abbrev pub CallsAddNoPlace : Type 0
CallsAddNoPlace = (ps : List Procedure) → places_of (main_of ps) ≡ root_places ps

-- the nodes and levels that are counted of the source, the body of a procedure at each of its calls, are those of the
-- system
abbrev pub NodesAreOfTheSystem : Type 0
NodesAreOfTheSystem =
    (ps : List Procedure) (entries : List Entry) → source_size ps entries ≡ system_size (system_of ps entries)
