-- Why nothing is launched.
use Rattle.std.specs.Prelude.{ℕ, ◌≡◌, ◌≢◌, ◌⊎◌, List, [], Option, None, Some, true, codes, unwrap_or}
use Rattle.serde_json.specs.Data.{Data}
use Rattle.system.specs.declared.system.System.{System}
use Rattle.front_end.specs.Accepting as accepting
use Rattle.front_end.specs.Accepting.{AcceptedAs}
use Rattle.front_end.specs.FaultNumbers as accepting_numbers
use Rattle.front_end.specs.declared.fault.Fault as accepting_fault
use Rattle.front_end.specs.declared.fault.Fault.TheVariants as unaccepted
use Rattle.trace_file.specs.FaultNumbers as loading_numbers
use Rattle.trace_file.specs.Loading as loading
use Rattle.trace_file.specs.declared.fault.Fault as loading_fault
use Rattle.trace_file.specs.declared.fault.Fault.TheVariants as unloaded
use Rattle.dap_messages.specs.declared.answer.Answer.{Answer}
use Rattle.dap.specs.Asking.{Asks, IsAsked, has_wrong, path_named}
use Rattle.dap.specs.Files.{AreRead, IsUnread, Reads}
use Rattle.dap.specs.Stops.{NotDone}
use Rattle.dap.specs.declared.launch.Failed.{Failed}

-- these arguments ask for nothing, which has this number: one is not what it should be, or none names a program
abbrev pub AsksForNothing : Data → ℕ → Type 0
AsksForNothing d number =
    ((number ≡ 104) × (has_wrong d ≡ true)) ⊎ ((number ≡ 108) × (path_named (codes "program") d ≡ None))

-- the number of a fault that is not want of memory
abbrev pub IsOfTexts : accepting_fault.Fault → ℕ → Type 0
IsOfTexts fault number = (fault ≢ unaccepted.Memory) × (number ≡ accepting_numbers.fault_number fault)

abbrev pub IsOfTrace : loading_fault.Fault → ℕ → Type 0
IsOfTrace fault number = (fault ≢ unloaded.Memory) × (number ≡ loading_numbers.fault_number fault)

-- source and stimulus are not accepted, for the reason of this number
abbrev pub AreUnaccepted : List ℕ → List ℕ → ℕ → Type 0
AreUnaccepted source stimulus number =
    (fault : accepting_fault.Fault) × accepting.IsRefused source stimulus fault × IsOfTexts fault number

-- the trace, if there is one, does not load, for the reason of this number
abbrev pub IsUnloaded : System → Option (List ℕ) → ℕ → Type 0
IsUnloaded system None number = ⊥
IsUnloaded system (Some text) number =
    (fault : loading_fault.Fault) × loading.IsRefused system text fault × IsOfTrace fault number

-- no machine begins with these texts, for the reason of this number
abbrev pub BeginsNone : List ℕ → List ℕ → Option (List ℕ) → ℕ → Type 0
BeginsNone source stimulus trace number =
    AreUnaccepted source stimulus number
    ⊎ ((system : System) × AcceptedAs source stimulus system × IsUnloaded system trace number)

-- what is asked for cannot be launched, for the reason of this number: a file is not there, or no machine begins with
-- what was read
abbrev pub CannotBegin : Reads → Asks → ℕ → Type 0
CannotBegin reads asked number =
    IsUnread reads asked number
    ⊎ ((source : List ℕ) × (found : Option (List ℕ)) × (trace : Option (List ℕ))
    × AreRead reads asked source found trace × BeginsNone source (unwrap_or found []) trace number)

-- so it is of what these arguments ask for, or they ask for nothing
abbrev pub CannotLaunch : Reads → Data → ℕ → Type 0
CannotLaunch reads d number =
    AsksForNothing d number ⊎ ((asked : Asks) × IsAsked d asked × CannotBegin reads asked number)

-- so it is of what a restart launches, by what it brings, and else by what was asked for before
abbrev pub CannotRestart : Reads → Option Data → Asks → ℕ → Type 0
CannotRestart reads (Some d) before number = CannotLaunch reads d number
CannotRestart reads None before number = CannotBegin reads before number

-- where something failed there was no memory, or so it was told
abbrev pub Fails : (ℕ → Type 0) → Failed → Answer → Type 0
Fails why Failed.Memory b = Unit {0}
Fails why Failed.Told b = NotDone why b
