-- The laws of runs: of any system, from its opening state.
use Rattle.std.specs.Prelude.{◌≡◌, ◌↔◌, ◌⊎◌, List, ◌∷◌, ◌++◌}
use Rattle.address.specs.Places.{Apart, Before}
use Rattle.system.specs.Residual.{Residual}
use Rattle.runs.specs.Moves.{Place, Move, Local}
use Rattle.syntax.specs.Lists.{In}
use Rattle.system.specs.Translation.{opening_residual}
use Rattle.system.specs.declared.system.System.{System}
use Rattle.sharing_rule.specs.Rule.{is_shared, SharesWell}
use Rattle.runs.specs.Choices.{choice_of}
use Rattle.runs.specs.Dependence.{SomeBefore, Directly, Earlier, Causes, Without, Rearranged, Respecting}
use Rattle.runs.specs.Events.{acting, places}
use Rattle.runs.specs.Steps.{opening, Run, State, Step, Allowed}
use Rattle.runs.specs.Related.{Related, OnOneShared}
use Rattle.runs.specs.WellFormed.{WellFormed}
use Rattle.runs.specs.declared.event.Event.{Event}

-- two neighbours of a run swap unless the second depends directly on the first
abbrev pub NeighboursSwap : Type 0
NeighboursSwap =
    (system : System) (h k : List Event) (e f : Event) (T : State) →
    Run (opening system) (h ++ e ∷ f ∷ k) T → (Directly e f → ⊥) → Run (opening system) (h ++ f ∷ e ∷ k) T

-- a list that runs still runs without an event on which nothing after it depends directly, and that event then leads on
-- to the same state
abbrev pub RunsWithout : Type 0
RunsWithout =
    (system : System) (h k : List Event) (e : Event) (T : State) →
    Run (opening system) (h ++ e ∷ k) T → ((f : Event) → In f k → Directly e f → ⊥) →
    (U : State) × Run (opening system) (h ++ k) U × Step U e T

-- a list that runs, runs without an event and all that depends on it
abbrev pub RunsWithoutConsequences : Type 0
RunsWithoutConsequences =
    (system : System) (h k : List Event) (e : Event) (T : State) →
    Run (opening system) h T → Without (Causes h e) h k → (U : State) × Run (opening system) k U

-- an event on which nothing after it depends directly causes itself alone
abbrev pub CausesAlone : Type 0
CausesAlone =
    (h : List Event) (e f : Event) → ((g : Event) → Earlier h e g → Directly e g → ⊥) → Causes h e f → f ≡ e

-- every respecting order of a list that runs, runs to the same state
abbrev pub RespectingOrdersRun : Type 0
RespectingOrdersRun =
    (system : System) (h g : List Event) (T : State) →
    Run (opening system) h T → Respecting h g → Run (opening system) g T

-- a list that runs, runs to one state
abbrev pub LeadsToOneState : Type 0
LeadsToOneState =
    (system : System) (h : List Event) (T U : State) → Run (opening system) h T → Run (opening system) h U → T ≡ U

-- no two events of a run are equal
abbrev pub EventsAreDistinct : Type 0
EventsAreDistinct =
    (system : System) (h : List Event) (T : State) (e f : Event) →
    Run (opening system) h T → Earlier h e f → e ≡ f → ⊥

-- no two events of a run have one acting address
abbrev pub ActingOnce : Type 0
ActingOnce =
    (system : System) (h : List Event) (T : State) (e f : Event) →
    Run (opening system) h T → Earlier h e f → acting e ≡ acting f → ⊥

-- of two events of a run, each address of the earlier is before each address of the later, or apart from it
abbrev pub EarlierPlaces : Type 0
EarlierPlaces =
    (system : System) (h : List Event) (T : State) (e f : Event) (a b : Place) →
    Run (opening system) h T → Earlier h e f → In a (places e) → In b (places f) → Before a b ⊎ Apart a b

-- of two events of a run on one channel, or on one variable that is not shared and that one of them writes,
-- the earlier has an address before an address of the later
abbrev pub RelatedAreOrdered : Type 0
RelatedAreOrdered =
    (system : System) (h : List Event) (T : State) (e f : Event) → SharesWell system →
    Run (opening system) h T → Earlier h e f → Related (is_shared system) e f → SomeBefore e f

-- two lists that run and have the same events, with any two that are on one shared variable in the same order,
-- are respecting orders of each other
abbrev pub SameEventsRespect : Type 0
SameEventsRespect =
    (system : System) (h g : List Event) (T U : State) → SharesWell system →
    Run (opening system) h T → Run (opening system) g U → Rearranged h g →
    ((e f : Event) → Earlier h e f → OnOneShared (is_shared system) e f → Earlier g e f) →
    Respecting h g × Respecting g h

-- a list that runs and its respecting orders have the same dependents
abbrev pub OrdersDependAlike : Type 0
OrdersDependAlike =
    (system : System) (h g : List Event) (T : State) (e f : Event) →
    Run (opening system) h T → Respecting h g → (Causes h e f ↔ Causes g e f)

-- and so have two lists that run and have the same events, with any two that are on one shared variable in the same
-- order
abbrev pub RunsDependAlike : Type 0
RunsDependAlike =
    (system : System) (h g : List Event) (T U : State) (e f : Event) → SharesWell system →
    Run (opening system) h T → Run (opening system) g U → Rearranged h g →
    ((x y : Event) → Earlier h x y → OnOneShared (is_shared system) x y → Earlier g x y) →
    (Causes h e f ↔ Causes g e f)

-- what every system opens with is well formed
abbrev pub OpeningIsWellFormed : Type 0
OpeningIsWellFormed = (system : System) → WellFormed (opening_residual system)

-- and so is every state of a run
abbrev pub StatesAreWellFormed : Type 0
StatesAreWellFormed =
    (system : System) (h : List Event) (T : State) → Run (opening system) h T → WellFormed T.residual

-- of the events allowed in one state of a run, no two have one choice
abbrev pub OneChoice : Type 0
OneChoice =
    (system : System) (h : List Event) (S : State) (e f : Event) → SharesWell system →
    Run (opening system) h S → Allowed S e → Allowed S f → choice_of e ≡ choice_of f → e ≡ f

-- two moves that a residual offers at places apart can be made one after the other, in either order
abbrev pub ApartMovesMeet : Type 0
ApartMovesMeet =
    (r : Residual) (a b : Place) (m n : Move) (s t : Residual) → Apart a b → Local r a m s → Local r b n t →
    (q : Residual) × Local s b n q

-- of two moves that are made one after the other at places apart, the second was offered before the first
abbrev pub ApartMovesWereOffered : Type 0
ApartMovesWereOffered =
    (r : Residual) (a b : Place) (m n : Move) (s q : Residual) → WellFormed r → Apart a b → Local r a m s →
    Local s b n q →
    (t : Residual) × Local r b n t
