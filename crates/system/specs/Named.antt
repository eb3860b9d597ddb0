-- Variables and channels by name and by number, and the names that are made for a call.
use Rattle.std.specs.Prelude.{ℕ, ◌+◌, nat_eq, nat_le, if◌then◌else◌, List, [], ◌∷◌, Option, Some, None, slice_get, ◌++◌}
use Rattle.std.specs.Option.{option_map}
use Rattle.std.specs.Cmp.Lexicographic.{pointwise}
use Rattle.std.specs.declared.alloc.Global.{Global}
use Rattle.std.specs.declared.sync.Arc.{Arc}
use Rattle.system.specs.declared.prefix.Call.{Call}
use Rattle.system.specs.declared.system.Variable.{Variable}
use Rattle.system.specs.declared.system.Channel.{Channel}
use Rattle.std.specs.Fmt.{decimal}

-- a position as a number of 32 bits, where it has so many
abbrev pub as_number : ℕ → Option ℕ
as_number position = if nat_le position 4294967295 then Some position else None

-- the number of the first variable of this name, where the first of them has this position
abbrev pub variable_from : ℕ → List Variable → List ℕ → Option ℕ
variable_from position [] name = None
variable_from position (v ∷ vs) name =
    if pointwise nat_eq v.name name then as_number position else variable_from (position + 1) vs name

-- the name of the variable of this number
abbrev pub variable_name_at : List Variable → ℕ → Option (List ℕ)
variable_name_at variables number = option_map (λ v. v.name) (slice_get variables number)

-- the name of the channel of this number
abbrev pub channel_name_at : List Channel → ℕ → Option (List ℕ)
channel_name_at channels number = option_map (λ c. c.name) (slice_get channels number)

-- what stands before the names that are made for the call of this number: `k:` behind what stands there already
abbrev pub prefix_of_call : List ℕ → ℕ → List ℕ
prefix_of_call prefix call = prefix ++ decimal call ++ 58 ∷ []

-- what a prefix shows: the bytes of the calls, the outermost first
abbrev pub prefix_bytes : Option (Arc Call Global) → List ℕ
prefix_bytes None = []
prefix_bytes (Some call) = call.value.around ++ call.value.text.items
