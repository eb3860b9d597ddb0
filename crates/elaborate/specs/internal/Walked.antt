-- The system as it is made.
-- No reader has to believe it: `proofs/Expanded.antt` ties it to `system_of` of `Elaboration.antt`.
use Rattle.std.specs.Prelude.{ℕ, ◌+◌, ◌-◌, List, [], ◌∷◌, length}
use Rattle.elaborate.specs.Elaboration.{root_ports}
use Rattle.elaborate.specs.Environment.{branch_on}
use Rattle.elaborate.specs.Fit.{entry_named}
use Rattle.elaborate.specs.internal.Makers.{WithMade, after_call, called, makers}
use Rattle.elaborate.specs.internal.Making.{capped_number, nothing_made, ports_onto, Numbered}
use Rattle.elaborate.specs.declared.stimulus.Entry.{Entry}
use Rattle.system.specs.declared.command.Command as tree_command
use Rattle.system.specs.declared.system.Branch.{Branch}
use Rattle.system.specs.declared.system.System.{System}
use Rattle.types.specs.declared.tree.Port.{Port}
use Rattle.types.specs.declared.tree.Procedure.{Procedure}

-- the branch of each port, the first of which has this place
abbrev pub walked_branches : List Entry → ℕ → List Port → List Branch
walked_branches entries place [] = []
walked_branches entries place (port ∷ ports) =
    branch_on (capped_number place) port.kind (entry_named entries port.name)
    ∷ walked_branches entries (place + 1) ports

-- the channels of the root's ports, made first
abbrev pub root_channels : List Procedure → Numbered
root_channels ps = ports_onto [] nothing_made (root_ports ps)

-- what the last procedure makes over the channels of its ports; its names are as they are written
abbrev pub root_makes : List Procedure → WithMade tree_command.Command
root_makes ps =
    after_call 0
    (called (makers ps) (length ps - 1) (record { ports = (root_channels ps).numbers; prefix = [] })
    (root_channels ps).made)

-- the system: what the root makes, and the environment's branch on each of its ports
abbrev pub walked_system : List Procedure → List Entry → System
walked_system ps entries = record {
  main = (root_makes ps).0;
  environment = walked_branches entries 0 (root_ports ps);
  variables = (root_makes ps).1.variables;
  channels = (root_makes ps).1.channels;
}
