-- The copies that are made of the locals of procedures, and the number of each.
use Rattle.std.specs.Prelude.{ℕ, List, [], ◌∷◌, ◌++◌, map, length, true, false}
use Rattle.syntax.specs.Texts.{Text}
use Rattle.system.specs.declared.system.Channel.{Channel}
use Rattle.system.specs.declared.system.ChannelKind.TheVariants as channel
use Rattle.system.specs.declared.system.Variable.{Variable}
use Rattle.types.specs.declared.tree.Local.{Local}
use Rattle.types.specs.declared.tree.LocalKind.{LocalKind}
use Rattle.types.specs.declared.tree.LocalKind.TheVariants as local
use Rattle.types.specs.declared.tree.Port.{Port}
use Rattle.types.specs.declared.tree.PortKind.{PortKind}
use Rattle.types.specs.declared.tree.PortKind.TheVariants as port

-- a copy of a local: the local, with this before its name
abbrev pub copied : Text → Local → Local
copied prefix l = record l { name = prefix ++ l.name }

-- a copy of each local
abbrev pub all_copied : Text → List Local → List Local
all_copied prefix ls = map (copied prefix) ls

-- a port of the root is a channel, as a local may be
abbrev pub kind_of_port : PortKind → LocalKind
kind_of_port (port.Input width) = local.Channel width
kind_of_port (port.Output width) = local.Channel width
kind_of_port port.Sync = local.Sync

-- the local that a port of the root is
abbrev pub channel_of_port : Port → Local
channel_of_port p = record { name = p.name; declared = p.declared; kind = kind_of_port p.kind }

-- the variable of this name, where a local of this kind is one
abbrev pub variable_of : Text → LocalKind → List Variable
variable_of name (local.Variable width) = record { name = name; width = width; shared = false } ∷ []
variable_of name (local.SharedVariable width) = record { name = name; width = width; shared = true } ∷ []
variable_of name (local.Channel width) = []
variable_of name local.Sync = []

-- the channel of this name that is declared there, where a local of this kind is one
abbrev pub channel_of : Text → ℕ → LocalKind → List Channel
channel_of name declared (local.Variable width) = []
channel_of name declared (local.SharedVariable width) = []
channel_of name declared (local.Channel width) =
    record { name = name; kind = channel.Data width; declared = declared } ∷ []
channel_of name declared local.Sync = record { name = name; kind = channel.Sync; declared = declared } ∷ []

-- those that are variables
abbrev pub variables_among : List Local → List Variable
variables_among [] = []
variables_among (l ∷ ls) = variable_of l.name l.kind ++ variables_among ls

-- those that are channels
abbrev pub channels_among : List Local → List Channel
channels_among [] = []
channels_among (l ∷ ls) = channel_of l.name l.declared l.kind ++ channels_among ls

-- the number of a local of this kind: how many of its sort come before it
abbrev pub number_behind : List Local → LocalKind → ℕ
number_behind before (local.Variable width) = length (variables_among before)
number_behind before (local.SharedVariable width) = length (variables_among before)
number_behind before (local.Channel width) = length (channels_among before)
number_behind before local.Sync = length (channels_among before)

-- the number of each of these, behind those that come before
abbrev pub numbers_behind : List Local → List Local → List ℕ
numbers_behind before [] = []
numbers_behind before (l ∷ ls) = number_behind before l.kind ∷ numbers_behind (before ++ l ∷ []) ls
