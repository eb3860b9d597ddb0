-- The one system that a description and a stimulus give, and when they are refused.
use Rattle.std.specs.Prelude.{◌≡◌, ◌-◌, ◌++◌, List, [], Some, None, map, length, Option, slice_get}
use Rattle.elaborate.specs.Calls.{Expansion, Entered, called, expansions}
use Rattle.elaborate.specs.Copies.{channel_of_port, variables_among, channels_among, numbers_behind}
use Rattle.elaborate.specs.Environment.{branches_from}
use Rattle.elaborate.specs.Fit.{first_misfit}
use Rattle.elaborate.specs.Size.{system_size, IsSmall}
use Rattle.system.specs.declared.command.Command as tree_command
use Rattle.refusals.specs.declared.elaborate.Fault.{Fault}
use Rattle.refusals.specs.declared.elaborate.Fault.TheVariants.{Memory, TooManyNodes, BadStimulus}
use Rattle.elaborate.specs.declared.stimulus.Entry.{Entry}
use Rattle.system.specs.declared.system.System.{System}
use Rattle.types.specs.declared.tree.Local.{Local}
use Rattle.types.specs.declared.tree.Procedure.{Procedure}
use Rattle.types.specs.declared.tree.Port.{Port}

-- the ports of a procedure, none where there is none
abbrev pub ports_of : Option Procedure → List Port
ports_of None = []
ports_of (Some p) = p.ports

-- the ports of the last procedure, which is the root
abbrev pub root_ports : List Procedure → List Port
root_ports ps = ports_of (slice_get ps (length ps - 1))

-- what the root becomes
abbrev pub root : List Procedure → Expansion
root ps = called (expansions ps) (length ps - 1)

-- the channels of its ports, which come before everything else
abbrev pub port_channels : List Procedure → List Local
port_channels ps = map channel_of_port (root_ports ps)

-- the copies that are made for it, whose own names are as they are written
abbrev pub root_copies : List Procedure → List Local
root_copies ps = (root ps).copies []

-- how it is entered: each of its ports stands for the channel of that port
abbrev pub root_entered : List Procedure → Entered
root_entered ps = record { prefix = []; before = port_channels ps; ports = numbers_behind [] (port_channels ps) }

-- its body, with the bodies of its calls
abbrev pub main_of : List Procedure → tree_command.Command
main_of ps = (root ps).body (root_entered ps)

-- the system: what the root becomes, and the environment's branch on each of its ports
abbrev pub system_of : List Procedure → List Entry → System
system_of ps entries = record {
  main = main_of ps;
  environment = branches_from entries 0 (root_ports ps);
  variables = variables_among (port_channels ps ++ root_copies ps);
  channels = channels_among (port_channels ps ++ root_copies ps);
}

-- the line of the first entry that does not fit is refused, and then a system past the limits
abbrev pub IsRefused : List Procedure → List Entry → Fault → Type 0
IsRefused ps entries Memory = ⊥
IsRefused ps entries (BadStimulus line) = first_misfit (root_ports ps) [] entries ≡ Some line
IsRefused ps entries TooManyNodes =
    (first_misfit (root_ports ps) [] entries ≡ None) × ¬ IsSmall (system_size (system_of ps entries))

-- every entry fits, and the system is within the limits
abbrev pub IsAccepted : List Procedure → List Entry → Type 0
IsAccepted ps entries = (first_misfit (root_ports ps) [] entries ≡ None) × IsSmall (system_size (system_of ps entries))
