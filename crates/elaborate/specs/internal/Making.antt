-- The variables and channels of a system as they are made, one behind the other. Numbers end at those of 32 bits.
-- No reader has to believe it: `proofs/CopyLemmas.antt` ties it to the copies of `Copies.antt`.
use Rattle.std.specs.Prelude.{ℕ, min, List, [], ◌∷◌, ◌++◌, Bool, true, false, length}
use Rattle.types.specs.declared.tree.Local.{Local}
use Rattle.types.specs.declared.tree.LocalKind.{LocalKind}
use Rattle.types.specs.declared.tree.LocalKind.TheVariants as local
use Rattle.types.specs.declared.tree.Port.{Port}
use Rattle.elaborate.specs.declared.made.Made.{Made}
use Rattle.system.specs.declared.system.ChannelKind.{ChannelKind}
use Rattle.system.specs.declared.system.ChannelKind.TheVariants as kind
use Rattle.types.specs.declared.tree.PortKind.{PortKind}
use Rattle.types.specs.declared.tree.PortKind.TheVariants as port
use Rattle.elaborate.specs.declared.instance.Instance.{Instance}
use Rattle.elaborate.specs.declared.instance.Entrance.{Entrance}

-- a number of 32 bits: the place in a list, and the largest for all places behind
abbrev pub capped_number : ℕ → ℕ
capped_number place = min place 4294967295

-- values of the port's width, or nothing
abbrev pub kind_of_port : PortKind → ChannelKind
kind_of_port (port.Input width) = kind.Data width
kind_of_port (port.Output width) = kind.Data width
kind_of_port port.Sync = kind.Sync

-- numbers that were given, and what is made then
pub record Numbered : Type 0 where
  pub numbers : List ℕ
  pub made : Made

-- one channel more
abbrev pub with_channel : Made → List ℕ → ChannelKind → ℕ → Made
with_channel made name k declared =
    record made { channels = made.channels ++ record { name = name; kind = k; declared = declared } ∷ [] }

-- one variable more, and whether any branches may use it
abbrev pub with_variable : Made → List ℕ → ℕ → Bool → Made
with_variable made name width shared =
    record made { variables = made.variables ++ record { name = name; width = width; shared = shared } ∷ [] }

-- the number that a local gets
abbrev pub number_for : Made → LocalKind → ℕ
number_for made (local.Variable width) = capped_number (length made.variables)
number_for made (local.SharedVariable width) = capped_number (length made.variables)
number_for made (local.Channel width) = capped_number (length made.channels)
number_for made local.Sync = capped_number (length made.channels)

-- what is made with a local of this name
abbrev pub with_local : Made → List ℕ → ℕ → LocalKind → Made
with_local made name declared (local.Variable width) = with_variable made name width false
with_local made name declared (local.SharedVariable width) = with_variable made name width true
with_local made name declared (local.Channel width) = with_channel made name (kind.Data width) declared
with_local made name declared local.Sync = with_channel made name kind.Sync declared

-- the locals of a procedure in order, the prefix before the name of each
abbrev pub locals_onto : List ℕ → List ℕ → Made → List Local → Numbered
locals_onto numbers prefix made [] = record { numbers = numbers; made = made }
locals_onto numbers prefix made (l ∷ ls) =
    locals_onto (numbers ++ number_for made l.kind ∷ []) prefix
    (with_local made (prefix ++ l.name) l.declared l.kind) ls

-- the channels of the root's ports in order
abbrev pub ports_onto : List ℕ → Made → List Port → Numbered
ports_onto numbers made [] = record { numbers = numbers; made = made }
ports_onto numbers made (p ∷ ps) =
    ports_onto (numbers ++ capped_number (length made.channels) ∷ [])
    (with_channel made p.name (kind_of_port p.kind) p.declared) ps

-- before anything is made
abbrev pub nothing_made : Made
nothing_made = record { variables = []; channels = []; calls = 0 }

-- what its names stand for
abbrev pub instance_of : Entrance → Numbered → Instance
instance_of entrance locals = record { ports = entrance.ports; locals = locals.numbers; prefix = entrance.prefix }

-- what is made
abbrev pub entered : Numbered → Made
entered locals = record locals.made { calls = 0 }
