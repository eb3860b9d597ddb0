use Rattle.std.proofs.Common.{◌≡◌, drop}
use Rattle.types.specs.Declarations.{with_ports}
use Rattle.types.specs.internal.Scopes.{entries}
use Rattle.types.specs.internal.Least.{least}
use Rattle.types.proofs.declaration.declare_port.Given as goal

-- with the names that are left, those so far are all
abbrev pub invariant-loop-name : goal.invariant-loop-name
invariant-loop-name l =
    with_ports least l.kind (record { names = entries l.names; made = l.ports; right = l.right }) (drop l.name-index l.declared)
    ≡ with_ports least l.kind (record { names = entries l.fn.names; made = l.fn.ports; right = l.fn.right }) l.declared
