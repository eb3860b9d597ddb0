-- The nodes of a system beside those of its main part.
use Rattle.std.proofs.Common.{◌≡◌, ℕ, suc, ◌+◌, ◌-◌, ◌≤◌, List, [], ◌∷◌, ◌++◌, Option, map, length, refl, ap, arith, length-append}
use Rattle.std.proofs.lemmas.List.{length-map}
use Rattle.elaborate.specs.Copies.{channel_of_port, kind_of_port, channel_of, channels_among}
use Rattle.elaborate.specs.Elaboration.{root_ports, port_channels, root_copies, system_of}
use Rattle.elaborate.specs.Environment.{at_width, values_of, branch_on, branches_from}
use Rattle.elaborate.specs.Fit.{entry_named}
use Rattle.elaborate.specs.Size.{values_sent, all_values_sent}
use Rattle.elaborate.specs.SourceSize.{sent, sent_on}
use Rattle.elaborate.proofs.CopyLemmas.{sorted}
use Rattle.elaborate.proofs.PortBranches.{branches_length}
use Rattle.elaborate.specs.declared.stimulus.Entry.{Entry}
use Rattle.system.specs.declared.system.System.{System}
use Rattle.types.specs.declared.tree.Local.{Local}
use Rattle.types.specs.declared.tree.Port.{Port}
use Rattle.types.specs.declared.tree.PortKind.{PortKind}
use Rattle.types.specs.declared.tree.PortKind.TheVariants as kind
use Rattle.types.specs.declared.tree.Procedure.{Procedure}

-- ---- what is sent on each port

width_length : (w : ℕ) (ns : List ℕ) → length (at_width w ns) ≡ length ns
width_length w [] = refl
width_length w (n ∷ ns) = ap suc (width_length w ns)

sent_is : (channel : ℕ) (k : PortKind) (entry : Option Entry) → values_sent (branch_on channel k entry) ≡ sent k entry
sent_is channel (kind.Input w) entry = width_length w (values_of entry)
sent_is channel (kind.Output w) entry = refl
sent_is channel kind.Sync entry = refl

all_sent : (entries : List Entry) (place : ℕ) (ports : List Port) → all_values_sent (branches_from entries place ports) ≡ sent_on entries ports
all_sent entries place [] = refl
all_sent entries place (p ∷ ports) =
    omega (arith, sent_is place p.kind (entry_named entries p.name), all_sent entries (place + 1) ports)

-- ---- channels of ports

some_channel : (p : Port) (ls : List Local) → length (channels_among (channel_of_port p ∷ ls)) ≡ length (channels_among ls) + 1
some_channel p ls = by p.kind
  where
    by : (k : PortKind) → length (channel_of p.name p.declared (kind_of_port k) ++ channels_among ls) ≡ length (channels_among ls) + 1
    by (kind.Input w) = omega arith
    by (kind.Output w) = omega arith
    by kind.Sync = omega arith

enough_channels : (ports : List Port) (ls : List Local) → length ports ≤ length (channels_among (map channel_of_port ports ++ ls))
enough_channels [] ls = omega arith
enough_channels (p ∷ ports) ls = omega (arith, some_channel p (map channel_of_port ports ++ ls), enough_channels ports ls)

-- the nodes of a system beside those of its main part
abbrev pub nodes_beside_main : System → ℕ
nodes_beside_main system =
    length system.environment + all_values_sent system.environment + length system.variables + (length system.channels - length system.environment)

pub nodes_beside : (ps : List Procedure) (entries : List Entry)
    → length (root_ports ps) + sent_on entries (root_ports ps) + length (root_copies ps) ≡ nodes_beside_main (system_of ps entries)
nodes_beside ps entries =
    let ports = root_ports ps in
    let channels = port_channels ps in
    let copies = root_copies ps in
    let values = all_sent entries 0 ports in
    let branches = branches_length entries 0 ports in
    let many = sorted (channels ++ copies) in
    let together = length-append channels copies in
    let each = length-map ports channel_of_port in
    let enough = enough_channels ports copies in
    omega (arith, values, branches, many, together, each, enough)
