-- The variables and the channels of a system by number, with what is known of each.
use Rattle.std.specs.Prelude.{ℕ, ◌+◌, List, [], ◌∷◌}
use Rattle.system.specs.declared.system.Variable.{Variable}
use Rattle.system.specs.declared.system.Channel.{Channel}
use Rattle.outline.specs.declared.names.VariableEntry.{VariableEntry}
use Rattle.outline.specs.declared.names.ChannelEntry.{ChannelEntry}

-- these variables, the first with the number n
abbrev pub variables_from : ℕ → List Variable → List VariableEntry
variables_from n [] = []
variables_from n (v ∷ vs) =
    record { number = n; name = v.name; width = v.width; shared = v.shared } ∷ variables_from (n + 1) vs

-- these channels, the first with the number n
abbrev pub channels_from : ℕ → List Channel → List ChannelEntry
channels_from n [] = []
channels_from n (c ∷ cs) =
    record { number = n; name = c.name; kind = c.kind; declared = c.declared } ∷ channels_from (n + 1) cs
