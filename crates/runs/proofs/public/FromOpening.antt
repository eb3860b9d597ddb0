-- The laws of runs, for the runs of a system from its opening state.
use Rattle.std.proofs.Common.{◌≡◌, ℕ, List, ◌∷◌, Some, refl, ap, sym, ◌∙◌}
use Rattle.system.specs.Expression.{Store}
use Rattle.sharing_rule.specs.Rule.{is_sync, is_shared}
use Rattle.runs.specs.Choices.{opened_arm, choice_of}
use Rattle.runs.specs.Dependence.{Directly}
use Rattle.runs.specs.Events.{Located, Makes, assigning, testing, turning, meeting, opening as opens_with_data, opening_without_data, shutting, syncing}
use Rattle.runs.specs.Laws.{NeighboursSwap, RunsWithout, RunsWithoutConsequences, RespectingOrdersRun, LeadsToOneState, EventsAreDistinct, ActingOnce, EarlierPlaces, StatesAreWellFormed, RelatedAreOrdered, SameEventsRespect, OrdersDependAlike, RunsDependAlike, OneChoice}
use Rattle.runs.specs.internal.Agreement.{AllowedAreListed, AllowedWhereFormed, RunAsFunction}
use Rattle.runs.specs.Steps.{opening}
use Rattle.runs.specs.declared.event.Choice.{Choice}
use Rattle.runs.specs.declared.event.Event.{Event}
use Rattle.runs.specs.declared.event.Kind.TheVariants.{Open}
use Rattle.runs.proofs.public.Lists.{every-of}
use Rattle.runs.proofs.public.Opening.{opening-formed}
use Rattle.runs.proofs.Rule.{shares_well-keeps}
use Rattle.runs.proofs.KeptSharing.{keeps_sharing_run}
use Rattle.runs.proofs.Swap.{swap}
use Rattle.runs.proofs.public.Orders.{without, run-formed, run-part, run-join}
use Rattle.runs.proofs.Rollback.{rolled}
use Rattle.runs.proofs.public.Respecting.{respecting-runs}
use Rattle.runs.proofs.public.StepOf.{run-determined, run-of}
use Rattle.runs.proofs.public.Once.{acting-once, events-differ, clear-of}
use Rattle.runs.proofs.OrderingLaw as law
use Rattle.runs.proofs.SameEvents.{same-events-both, depend-alike}
use Rattle.runs.proofs.OneEvent.{OneArm}
use Rattle.runs.proofs.Choices as choices
use Rattle.runs.proofs.AllowedEvents as listed

-- neighbours swap, where the part before them has run
pub neighbours_swap : NeighboursSwap
neighbours_swap system h k e f T r free =
    let S = opening system in
    let parts = run-part S T h (e ∷ f ∷ k) r in
    let w = run-formed S parts.middle h (opening-formed system) parts.first in
    let turned = swap parts.middle parts.second.0 parts.second.2.0 e f w parts.second.1 parts.second.2.1 free in
    run-join S parts.middle T h (f ∷ e ∷ k) parts.first
    (turned.between, turned.first, (parts.second.2.0, turned.second, parts.second.2.2))

-- a list runs without an event
pub runs_without : RunsWithout
runs_without system h k e T r none =
    let last = without (opening system) T e h k (opening-formed system) r (every-of (λ f. Directly e f → ⊥) k none) in
    (last.before, last.run, last.step)

-- and without an event and its consequences
pub runs_without_consequences : RunsWithoutConsequences
runs_without_consequences system h k e T r rest = rolled (opening system) T e h k (opening-formed system) r rest

-- respecting orders run
pub respecting_orders : RespectingOrdersRun
respecting_orders system h g T r o = respecting-runs (opening system) T h g (opening-formed system) r o

-- a list leads to one state
pub one_state : LeadsToOneState
one_state system h T U r q = run-determined (opening system) h T U (opening-formed system) r q

-- events of a run are distinct
pub events_are_distinct : EventsAreDistinct
events_are_distinct system h T e f r i = events-differ (opening system) T e f h (opening-formed system) r i

-- and so are their acting addresses
pub acting_once : ActingOnce
acting_once system h T e f r i = acting-once (opening system) T e f h (opening-formed system) r i

-- addresses of a run are before or apart
pub earlier_places : EarlierPlaces
earlier_places system h T e f a b r i ia ib = clear-of (opening system) T e f h (opening-formed system) r i a b ia ib

-- states of a run are well formed
pub states_are_well_formed : StatesAreWellFormed
states_are_well_formed system h T r = run-formed (opening system) T h (opening-formed system) r

-- related events are ordered by their addresses
pub ordered : RelatedAreOrdered
ordered system h T e f rule r i related =
    law.ordered (is_sync system) (is_shared system) (opening system) T h e f (shares_well-keeps system rule) (opening-formed system) r i related

-- lists with the same events are respecting orders of each other
pub same_events : SameEventsRespect
same_events system h g T U rule r q again alike =
    same-events-both (is_sync system) (is_shared system) (opening system) T U h g (shares_well-keeps system rule) (opening-formed system) r q again alike

-- and have the same dependents, as respecting orders have
pub orders_depend_alike : OrdersDependAlike
orders_depend_alike system h g T e f r o = depend-alike (opening system) T h g e f (opening-formed system) r o

pub runs_depend_alike : RunsDependAlike
runs_depend_alike system h g T U e f rule r q again alike =
    orders_depend_alike system h g T e f r (same_events system h g T U rule r q again alike).0

-- an event that opens has an arm
opens_arm : (s : Store) (ls : List Located) (e : Event) → Makes s ls e → e.kind ≡ Open → (k : ℕ) × (e.arm ≡ Some k)
opens_arm s ls e (assigning a x w g) o = cc
opens_arm s ls e (testing a d k p) o = cc
opens_arm s ls e (turning a) o = cc
opens_arm s ls e (meeting a b d w g x p) o = cc
opens_arm s ls e (opens_with_data a b d w k g p) o = (k, refl)
opens_arm s ls e (opening_without_data a b d k p) o = (k, refl)
opens_arm s ls e (shutting a b d p) o = cc
opens_arm s ls e (syncing a b d p l) o = cc

-- the arm that an opening event opens
opened_is : (e : Event) (k : ℕ) → e.kind ≡ Open → e.arm ≡ Some k → opened_arm e.kind e.arm ≡ k
opened_is e k o p = λ i. opened_arm (o i) (p i)

-- events of one choice open one arm
one_arm : (s u : Store) (ls ks : List Located) (e f : Event) → Makes s ls e → Makes u ks f → choice_of e ≡ choice_of f → OneArm e f
one_arm s u ls ks e f m n same o p =
    let x = opens_arm s ls e m o in
    let y = opens_arm u ks f n p in
    let arms : x.0 ≡ y.0 = sym (opened_is e x.0 o x.1) ∙ ap (λ (c : Choice). c.arm) same ∙ opened_is f y.0 p y.1 in
    x.1 ∙ ap (λ k. Some k) arms ∙ sym y.1

-- one choice takes one event
pub one_choice : OneChoice
one_choice system h S e f rule r (T, one) (U, other) same =
    choices.one_choice (is_sync system) (is_shared system) S e f T U
    (keeps_sharing_run (is_sync system) (is_shared system) (opening system) S h (shares_well-keeps system rule) r)
    (run-formed (opening system) S h (opening-formed system) r) one other
    (ap (λ (c : Choice). c.place) same)
    (one_arm S.store S.store one.moves other.moves e f one.makes other.makes same)

-- the list of allowed events has them all, and no others
pub allowed_where_formed : AllowedWhereFormed
allowed_where_formed S e w = (listed.events-complete S w e, listed.events-sound S e)

pub allowed_are_listed : AllowedAreListed
allowed_are_listed system h S e r = allowed_where_formed S e (run-formed (opening system) S h (opening-formed system) r)

-- the run as a function is the run
pub run_as_function : RunAsFunction
run_as_function system h T = run-of (opening system) h T (opening-formed system)
