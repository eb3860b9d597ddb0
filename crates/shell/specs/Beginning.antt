-- With which execution a session begins, and which one a trace gives.
use Rattle.std.specs.Prelude.{ℕ, ◌≡◌, ◌⊎◌, List, [], Option, Some, None}
use Rattle.system.specs.declared.system.System.{System}
use Rattle.machine.specs.AtMachine.{AtMachine}
use Rattle.trace_file.specs.Loading.{IsLoaded}
use Rattle.debug_session.specs.Accepting.{AcceptedAs, IsRefused}
use Rattle.debug_session.specs.Replaying.{RefusesTrace}
use Rattle.debug_session.specs.declared.fault.Fault.{Fault}

-- the machine has the steps that a text stands for, over the system of this source and stimulus
abbrev pub IsOfTrace : List ℕ → List ℕ → AtMachine → Type 0
IsOfTrace source stimulus m =
    (system : System) × AcceptedAs source stimulus system × ((text : List ℕ) × IsLoaded system text m)

-- a session on this source and stimulus, behind this trace if there is one, begins with the machine
abbrev pub BeginsAt : List ℕ → List ℕ → Option (List ℕ) → AtMachine → Type 0
BeginsAt source stimulus None m =
    (system : System) × AcceptedAs source stimulus system × (m ≡ record { checked = system; live = []; next = 1; marked = [] })
BeginsAt source stimulus (Some trace) m =
    (system : System) × AcceptedAs source stimulus system × IsLoaded system trace m

-- a trace over the system of this source and stimulus is refused for this reason, or these are
abbrev pub RefusesTexts : List ℕ → List ℕ → List ℕ → Fault → Type 0
RefusesTexts source stimulus trace fault =
    IsRefused source stimulus fault
    ⊎ ((system : System) × AcceptedAs source stimulus system × RefusesTrace system trace fault)

-- no session begins on this source and stimulus, behind this trace if there is one, for this reason
abbrev pub RefusesToBegin : List ℕ → List ℕ → Option (List ℕ) → Fault → Type 0
RefusesToBegin source stimulus None fault = IsRefused source stimulus fault
RefusesToBegin source stimulus (Some trace) fault = RefusesTexts source stimulus trace fault
