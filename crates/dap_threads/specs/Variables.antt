-- What is listed where something is unfolded.
use Rattle.std.specs.Prelude.{ℕ, zero, suc, ◌≡◌, ◌==◌, ◌&&◌, Bool, true, false, if◌then◌else◌, List, [], ◌∷◌, ◌++◌, Option, None, Some, codes, filter, length, map, string_bytes}
use Rattle.syntax.specs.Lists.{Every}
use Rattle.serde_json.specs.Data.{Data}
use Rattle.machine.specs.AtMachine.{AtMachine}
use Rattle.system_places.specs.SystemBranches.{branch_count}
use Rattle.dap_messages.specs.Arguments.{number_named, text_named}
use Rattle.dap_messages.specs.Notes.{IsRefusal}
use Rattle.dap_messages.specs.declared.answer.Answer.{Answer}
use Rattle.dap_messages.specs.declared.answer.Outcome.{Outcome}
use Rattle.dap_views.specs.declared.handles.Handle.{Handle}
use Rattle.dap_views.specs.Around.{around}
use Rattle.dap_views.specs.declared.index.Index.{Index}
use Rattle.dap_views.specs.declared.index.Named.{Named}
use Rattle.dap_views.specs.declared.index.Thing.{Thing}
use Rattle.dap_threads.specs.Given.{AreUnfoldedBy, Gives}
use Rattle.dap_threads.specs.Unfolded.{NamesHandle, instance_count}

-- whether it is a variable, or a channel
abbrev pub is_variable : Thing → Bool
is_variable (Thing.Variable n) = true
is_variable (Thing.Channel n) = false

abbrev pub is_channel : Thing → Bool
is_channel (Thing.Variable n) = false
is_channel (Thing.Channel n) = true

-- whether it is a variable, or a channel, of this call
abbrev pub is_variable_of : ℕ → Named → Bool
is_variable_of call n = (n.instance == call) && is_variable n.thing

abbrev pub is_channel_of : ℕ → Named → Bool
is_channel_of call n = (n.instance == call) && is_channel n.thing

-- the variables of a call, and its channels and ports, as they are declared
abbrev pub variables_of : List Named → ℕ → List Named
variables_of names call = filter (is_variable_of call) names

abbrev pub channels_of : List Named → ℕ → List Named
channels_of names call = filter (is_channel_of call) names

-- whether there is a call around, and it is this
abbrev pub is_call : ℕ → Option ℕ → Bool
is_call call None = false
is_call call (Some k) = k == call

-- of the first n calls those that are made in this one
abbrev pub calls_within : Index → ℕ → ℕ → List ℕ
calls_within index call zero = []
calls_within index call (suc n) =
    if is_call call (around index n) then calls_within index call n ++ n ∷ [] else calls_within index call n

-- and of all
abbrev pub calls_in : Index → ℕ → List ℕ
calls_in index call = calls_within index call (length index.calls.list.items)

-- what an item tells: its name, and the number by which it is unfolded, 0 where it is not
abbrev pub shown_told : Data → Option (List ℕ) × Option ℕ
shown_told d = (text_named (codes "name") d, number_named (codes "variablesReference") d)

abbrev pub shown_as : Named → Option (List ℕ) × Option ℕ
shown_as n = (Some (string_bytes n.own), Some 0)

-- the items tell these, in order, by their own names
abbrev pub AreNamed : List Data → List Named → Type 0
AreNamed items names = map shown_told items ≡ map shown_as names

-- none of these is unfolded
abbrev pub AreLeaves : List Data → Type 0
AreLeaves items = Every (λ (d : Data). number_named (codes "variablesReference") d ≡ Some 0) items

-- what is listed where this is unfolded: the variables of a call; its channels; some steps of a thread; the variables
-- of a call, and behind them the calls that are made in it, each with the number by which it is unfolded
abbrev pub Shows : Index → Handle → List Data → Type 0
Shows index (Handle.Variables call) items = AreNamed items (variables_of index.names.items call)
Shows index (Handle.Channels call) items = AreNamed items (channels_of index.names.items call)
Shows index (Handle.Steps thread) items = AreLeaves items
Shows index (Handle.Instance call) items =
    (own : List Data) × (calls : List Data) × (items ≡ own ++ calls)
    × AreNamed own (variables_of index.names.items call)
    × AreUnfoldedBy calls (map (λ (k : ℕ). Handle.Instance k) (calls_in index call))

-- that is given, where something was found; else the request is refused
abbrev pub GivesVariables : Index → Option Handle → Outcome → Type 0
GivesVariables index None outcome = IsRefusal outcome
GivesVariables index (Some handle) outcome =
    (items : List Data) × Gives (codes "variables") items outcome × Shows index handle items

-- so it is for what the arguments name by its number
abbrev pub ListsVariables : AtMachine → Index → Data → Answer → Type 0
ListsVariables m index d b =
    (found : Option Handle)
    × NamesHandle (instance_count index) (branch_count m.checked) (number_named (codes "variablesReference") d) found
    × GivesVariables index found b.outcome
