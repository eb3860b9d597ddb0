-- What there is in a system: exactly its branches, variables and channels, each once, in order of numbers.
use Rattle.std.specs.Prelude.{◌≡◌}
use Rattle.system.specs.declared.system.System.{System}
use Rattle.outline.specs.Branches.{branches_of, IsNumbered}
use Rattle.outline.specs.Names.{variables_from, channels_from}
use Rattle.outline.specs.declared.outline.Outline.{Outline}

-- this is the outline of the system
pub record Outlines (system : System) (o : Outline) : Type 0 where
  -- each branch with its place and its ends
  pub branches : o.branches ≡ branches_of system
  -- by the numbers that `branch` uses
  pub numbered : IsNumbered system o.branches
  pub variables : o.variables ≡ variables_from 0 system.variables
  pub channels : o.channels ≡ channels_from 0 system.channels
