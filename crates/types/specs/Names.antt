-- What the names mean that are visible at a place.
use Rattle.std.specs.Prelude.{ℕ, List, [], ◌∷◌, ◌++◌, Option, Some, None, Bool, false, nat_eq, is_some, if◌then◌else◌, Ok, Err}
use Rattle.std.specs.Cmp.Lexicographic.{pointwise}
use Rattle.std.specs.List.{list_any}
use Rattle.types.specs.Findings.{Verdict}
use Rattle.refusals.specs.declared.types.Fault.TheVariants.{NameTwice}
use Rattle.types.specs.declared.scope.Meaning.{Meaning}
use Rattle.types.specs.declared.scope.Meaning.TheVariants as meaning
use Rattle.types.specs.declared.scope.Found.{Found}
use Rattle.types.specs.declared.scope.Found.TheVariants.{Nothing, Opened, Means}
use Rattle.types.specs.declared.scope.Channel.{Channel}
use Rattle.types.specs.declared.tree.LocalKind.{LocalKind}
use Rattle.types.specs.declared.tree.LocalKind.TheVariants as local
use Rattle.types.specs.declared.tree.Binding.{Binding}
use Rattle.types.specs.declared.tree.PortKind.{PortKind}
use Rattle.types.specs.declared.tree.PortKind.TheVariants as port
use Rattle.types.specs.declared.tree.Binding.TheVariants as binding

-- the visible names in order of declaration, each with what it means
abbrev pub VisibleNames : Type 0
VisibleNames = List (List ℕ × Meaning)

-- what the name means: the first declaration stands
abbrev pub look_up : VisibleNames → List ℕ → Option Meaning
look_up [] name = None
look_up (entry ∷ rest) name = if pointwise nat_eq name entry.0 then Some entry.1 else look_up rest name

-- the channel that a name of this meaning is
abbrev pub channel_of : Meaning → Option Channel
channel_of (meaning.TypeName w) = None
channel_of (meaning.Element v) = None
channel_of (meaning.Procedure p) = None
channel_of (meaning.Input p w) = Some (record { binding = binding.Port p; width = Some w })
channel_of (meaning.Output p w) = Some (record { binding = binding.Port p; width = Some w })
channel_of (meaning.SyncPort p) = Some (record { binding = binding.Port p; width = None })
channel_of (meaning.Variable l w) = None
channel_of (meaning.Channel l w) = Some (record { binding = binding.Local l; width = Some w })
channel_of (meaning.Sync l) = Some (record { binding = binding.Local l; width = None })

abbrev pub same_binding : Binding → Binding → Bool
same_binding (binding.Port a) (binding.Port b) = nat_eq a b
same_binding (binding.Port a) (binding.Local b) = false
same_binding (binding.Local a) (binding.Port b) = false
same_binding (binding.Local a) (binding.Local b) = nat_eq a b

-- one of these is the channel
abbrev pub is_among : List Binding → Binding → Bool
is_among bindings channel = list_any (same_binding channel) bindings

-- what a name is that means this, and is this channel, where these channels are open
abbrev pub found_as : List Binding → Meaning → Option Channel → Found
found_as opened m None = Means m
found_as opened m (Some channel) = if is_among opened channel.binding then Opened channel else Means m

abbrev pub found_for : List Binding → Option Meaning → Found
found_for opened None = Nothing
found_for opened (Some m) = found_as opened m (channel_of m)

-- what the name is where these names are visible and these channels are open
unfoldable pub find : VisibleNames → List Binding → List ℕ → Found
find names opened name = found_for opened (look_up names name)

-- the names after one more is declared with this meaning: what is visible already stays as it is
abbrev pub declared : VisibleNames → List ℕ → Meaning → VisibleNames
declared names name m = if is_some (look_up names name) then names else names ++ (name, m) ∷ []

-- a name that is visible already may not be declared
abbrev pub is_fresh : VisibleNames → List ℕ → ℕ → Verdict (Unit {0})
is_fresh names name offset = if is_some (look_up names name) then Err (NameTwice offset) else Ok tt

-- the port at a place of its procedure
abbrev pub port_meaning : ℕ → PortKind → Meaning
port_meaning p (port.Input w) = meaning.Input p w
port_meaning p (port.Output w) = meaning.Output p w
port_meaning p port.Sync = meaning.SyncPort p

-- the local at a place of its procedure
abbrev pub local_meaning : ℕ → LocalKind → Meaning
local_meaning l (local.Variable w) = meaning.Variable l w
local_meaning l (local.SharedVariable w) = meaning.Variable l w
local_meaning l (local.Channel w) = meaning.Channel l w
local_meaning l local.Sync = meaning.Sync l
