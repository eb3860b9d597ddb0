-- What the names of a procedure stand for where it is called, as the code keeps it.
-- No reader has to believe it: these are the words of `Naming.antt` at the names of an instance.
use Rattle.std.specs.Prelude.{ℕ, List}
use Rattle.elaborate.specs.Naming as naming
use Rattle.elaborate.specs.Naming.{Names}
use Rattle.elaborate.specs.declared.instance.Instance.{Instance}
use Rattle.elaborate.specs.declared.instance.Entrance.{Entrance}
use Rattle.system.specs.Named.{prefix_of_call}
use Rattle.system.specs.declared.expression.Use.{Use}
use Rattle.system.specs.declared.expression.Expression as named
use Rattle.types.specs.declared.tree.Binding.{Binding}
use Rattle.types.specs.declared.tree.ChannelUse.{ChannelUse}
use Rattle.types.specs.declared.tree.VariableUse.{VariableUse}
use Rattle.types.specs.declared.tree.Expression.{Expression}

-- what the names of an instance stand for
abbrev pub names_of : Instance → Names
names_of instance = record { ports = instance.ports; locals = instance.locals }

-- the channel that a port or local is
abbrev pub channel_at : Instance → Binding → ℕ
channel_at instance binding = naming.channel_at (names_of instance) binding

-- a use of a channel, with its number
abbrev pub channel_use : Instance → ChannelUse → Use
channel_use instance u = naming.channel_use (names_of instance) u

-- a use of a variable, with its number
abbrev pub variable_use : Instance → VariableUse → Use
variable_use instance u = naming.variable_use (names_of instance) u

-- the channels of the arguments of a call
abbrev pub channels_of : Instance → List ChannelUse → List ℕ
channels_of instance uses = naming.channels_of (names_of instance) uses

-- the expression with numbers for its names
abbrev pub expression_in : Instance → Expression → named.Expression
expression_in instance = naming.expression_in (names_of instance)

-- what the call of this number enters a procedure with
abbrev pub entrance_of : Instance → List ChannelUse → ℕ → Entrance
entrance_of instance arguments call =
    record { ports = channels_of instance arguments; prefix = prefix_of_call instance.prefix call }
