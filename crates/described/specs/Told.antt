-- What nothing is told by.
use Rattle.std.specs.Prelude.{◌≡◌, []}
use Rattle.described.specs.declared.Described.{Described}

-- no call, no line and no enumeration is told
pub record TellsNothing (d : Described) : Type 0 where
  pub calls : d.calls ≡ []
  pub deeper : d.deeper ≡ 0
  pub variable_lines : d.variable_lines.items ≡ []
  pub channel_lines : d.channel_lines.items ≡ []
  pub enumerations : d.enumerations ≡ []
