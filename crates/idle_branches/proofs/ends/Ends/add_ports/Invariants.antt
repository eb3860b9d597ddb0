use Rattle.std.proofs.Common.{drop, map}
use Rattle.system.specs.Translation.{branch_of}
use Rattle.idle_branches.specs.declared.ends.Ends.{Ends}
use Rattle.idle_branches.specs.internal.Gathered.{AddsParts}
use Rattle.idle_branches.proofs.ends.Ends.add_ports.Given as goal

-- with those that are left, all are added
abbrev pub invariant-loop-port : goal.invariant-loop-port
invariant-loop-port l =
    (after : Ends) → AddsParts l.self (map branch_of (drop l.port-index l.ports)) after
    → AddsParts l.initial.self (map branch_of l.ports) after
